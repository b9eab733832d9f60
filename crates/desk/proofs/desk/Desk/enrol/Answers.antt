use Rattle.std.proofs.Common.{◌-◌, set, refl, ◌∙◌}
use Rattle.terms.specs.declared.call.Call.TheVariants.{Enrol}
use Rattle.steps.specs.State.{customer}
use Rattle.steps.specs.Steps.{under_broker}
use Rattle.desk.specs.Views.{state}
use Rattle.desk.proofs.Served.{turned_away, quietly}
use Rattle.desk.proofs.desk.Desk.enrol.Goals as goal

pub returns-in_err-newcomer : goal.returns-in_err-newcomer
returns-in_err-newcomer g c =
    turned_away g.B.Book g.R.MarginRule c.args.self.now (Enrol c.args.customer c.args.broker) _ c.from_residual.result c.from_residual.ensures.1 c.in_err-newcomer.ensures

pub returns : goal.returns
returns g c =
    let s = state g.B.Book g.R.MarginRule c.args.self.now in
    let h = c.in_ok-newcomer.ensures in
    let tabled = c.enrol.ensures ∙ (λ i. set s.customers (h.1.0 i - 1) (under_broker (customer s (h.1.0 i)) (h.1.1 i))) in
    quietly g.B.Book g.R.MarginRule c.args.self.now (Enrol c.args.customer c.args.broker) h.0 refl 0 refl c.enrol.new.self tabled _ refl
