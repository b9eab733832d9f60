use Rattle.desk.specs.Bargains.{trade_of, of_buyer, of_seller, parties}
use Rattle.desk.specs.Views.{state}
use Rattle.desk.proofs.Bargains.{withheld}
use Rattle.desk.proofs.Steps.{first_some}
use Rattle.desk.proofs.desk.Desk.check_parties.Goals as goal

pub returns-in_err-buyer_after : goal.returns-in_err-buyer_after
returns-in_err-buyer_after g c =
    let s = state g.B.Book g.R.MarginRule c.args.self.now in
    let d = trade_of c.args.terms.now in
    withheld s d (parties s d) _ c.from_residual.result c.from_residual.ensures.1 (first_some (of_buyer s d) (of_seller s d) _ c.in_err-buyer_after.ensures)
