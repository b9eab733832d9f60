use Rattle.std.proofs.Common.{◌≡◌, sym, ◌∙◌}
use Rattle.terms.specs.declared.call.Call.TheVariants.{Trade}
use Rattle.steps.specs.Refusals.{first, room_refusals}
use Rattle.steps.specs.Steps.{trade_deal}
use Rattle.desk.specs.Bargains.{trade_of, parties, terms_refusals}
use Rattle.desk.specs.Views.{state}
use Rattle.desk.proofs.Bargains.{withheld, agreed}
use Rattle.desk.proofs.Steps.{first_none, first_some}
use Rattle.desk.proofs.desk.Desk.check_trade.Goals as goal

pub returns-in_err-terms : goal.returns-in_err-terms
returns-in_err-terms g c =
    let s = state g.B.Book g.R.MarginRule c.args.self.now in
    let a = c.args in
    let d = trade_deal a.buyer a.seller a.series a.count a.price in
    let refusals = room_refusals s (Trade a.buyer a.seller a.series a.count a.price) in
    let terms = terms_refusals s (1, 2) a.buyer a.seller a.series a.count a.price in
    withheld s d refusals _ c.from_residual.result c.from_residual.ensures.1 (first_some terms (parties s d) _ c.in_err-terms.ensures)

pub returns : goal.returns
returns g c =
    let s = state g.B.Book g.R.MarginRule c.args.self.now in
    let a = c.args in
    let h = c.in_ok-terms.ensures in
    let e = trade_of c.in_ok-terms.terms in
    let d = trade_deal a.buyer a.seller a.series a.count a.price in
    let refusals = room_refusals s (Trade a.buyer a.seller a.series a.count a.price) in
    let terms = terms_refusals s (1, 2) a.buyer a.seller a.series a.count a.price in
    let same : e ≡ d = λ i. trade_deal (h.1.0 i) (h.1.1 i) (h.1.2 i) (h.1.3 i) (h.1.4 i) in
    agreed s (parties s e) refusals c.check_parties.result same ((λ i. first (parties s (same i))) ∙ sym (first_none terms (parties s d) h.0)) c.check_parties.ensures
