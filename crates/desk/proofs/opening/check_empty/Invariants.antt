use Rattle.std.proofs.Common.{◌≡◌, ◌-◌, drop}
use Rattle.steps.specs.Refusals.{not_empty}
use Rattle.desk.proofs.opening.check_empty.Given as goal

abbrev pub invariant-loop-account : goal.invariant-loop-account
invariant-loop-account g l =
    let bs = g.B.Book.balances l.book in
    not_empty l.account (drop (l.account - 1) bs) ≡ not_empty 1 bs
