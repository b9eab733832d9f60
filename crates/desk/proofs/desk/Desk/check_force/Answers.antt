use Rattle.std.proofs.Common.{◌∷◌}
use Rattle.terms.specs.declared.call.Call.TheVariants.{Force}
use Rattle.steps.specs.Deals.{force_deal}
use Rattle.steps.specs.Refusals.{room_refusals, counterparty}
use Rattle.desk.specs.Bargains.{terms_refusals, unforced}
use Rattle.desk.specs.Views.{state}
use Rattle.desk.proofs.Bargains.{withheld}
use Rattle.desk.proofs.Forced.{within}
use Rattle.desk.proofs.Steps.{first_some}
use Rattle.desk.proofs.desk.Desk.check_force.Goals as goal

pub returns-in_err-terms : goal.returns-in_err-terms
returns-in_err-terms g c =
    let s = state g.B.Book g.R.MarginRule c.args.self.now in
    let a = c.args in
    let d = force_deal s a.customer a.counterparty a.series a.offer a.price in
    let refusals = room_refusals s (Force a.customer a.counterparty a.series a.offer a.price) in
    let terms = terms_refusals s (2, 3) a.customer a.counterparty a.series a.offer a.price in
    let rest = unforced s a.customer a.series ∷ counterparty s a.counterparty a.series d in
    withheld s d refusals _ c.from_residual.result c.from_residual.ensures.1 (first_some terms rest _ c.in_err-terms.ensures)

pub check_closing-requires : goal.check_closing-requires
check_closing-requires g c =
    let s = state g.B.Book g.R.MarginRule c.args.self.now in
    let t = c.in_ok-terms.terms in
    let h = c.in_ok-held.ensures in
    record { held = h.1.0; count = within s t.one.value t.lot.series.value t.lot.count.value t.lot.price.value c.forced_count-count.ensures h.1.0 h.1.1 }
