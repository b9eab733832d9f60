use Rattle.std.proofs.Common.{◌≡◌, ◌+◌, drop}
use Rattle.book.specs.Postings.{lowest_out}
use Rattle.book.proofs.posting.lowest_out.Given as goal

abbrev pub invariant-loop-i : goal.invariant-loop-i
invariant-loop-i g l =
    let bs = g.B.Book.balances l.book in
    lowest_out (l.i + 1) (drop l.i bs) (drop l.i l.amounts) ≡ lowest_out 1 bs l.amounts
