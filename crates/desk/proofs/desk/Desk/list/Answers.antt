use Rattle.std.proofs.Common.{◌-◌, set, refl, ◌∙◌}
use Rattle.terms.specs.declared.call.Call.TheVariants.{List}
use Rattle.tables.specs.Views.{listed}
use Rattle.desk.specs.Views.{state}
use Rattle.desk.proofs.Served.{turned_away, quietly}
use Rattle.desk.proofs.desk.Desk.list.Goals as goal

pub returns-in_err-number : goal.returns-in_err-number
returns-in_err-number g c =
    let a = c.args in
    turned_away g.B.Book g.R.MarginRule c.args.self.now (List a.size a.limit a.series a.price a.fee) _ c.from_residual.result c.from_residual.ensures.1 c.in_err-number.ensures

pub returns : goal.returns
returns g c =
    let s = state g.B.Book g.R.MarginRule c.args.self.now in
    let a = c.args in
    let h = c.in_ok-number.ensures in
    let tabled = c.list.ensures ∙ (λ i. set s.series (h.1.0 i - 1) (listed (h.1.1 i) (h.1.2 i) (h.1.3 i) (h.1.4 i))) in
    quietly g.B.Book g.R.MarginRule c.args.self.now (List a.size a.limit a.series a.price a.fee) h.0 refl 0 refl _ refl c.list.new.self tabled
