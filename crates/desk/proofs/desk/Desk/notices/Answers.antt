use Rattle.std.proofs.Common.{map, refl, ◌∙◌}
use Rattle.std.specs.List.{range_with_len}
use Rattle.terms.specs.declared.call.Call.TheVariants.{Notices}
use Rattle.steps.specs.State.{customers, customer}
use Rattle.steps.specs.Margins.{below_minimum}
use Rattle.desk.specs.Views.{state}
use Rattle.desk.proofs.Called.{called_one}
use Rattle.desk.proofs.Served.{quietly}
use Rattle.desk.proofs.desk.Desk.notices.Goals as goal

pub returns : goal.returns
returns g c =
    let s = state g.B.Book g.R.MarginRule c.args.self.now in
    let t = c.turn_notices-called.ensures in
    let tabled = t.after ∙ (λ i. map (λ n. called_one (customer s n) (below_minimum s n) i) (range_with_len 1 customers)) in
    quietly g.B.Book g.R.MarginRule c.args.self.now Notices c.in_ok-check_notices.ensures.0 refl _ (c.from.ensures ∙ t.count) c.turn_notices-called.new.customers tabled c.clear_marks.new.self c.clear_marks.ensures
