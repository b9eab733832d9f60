use Rattle.book.proofs.Turns.{Made}
use Rattle.book.proofs.posting.make_all.Given as goal

abbrev pub invariant-loop-i : goal.invariant-loop-i
invariant-loop-i g l =
    let m = g.B.Book in
    Made (m.balances l.initial.book) (m.lines l.initial.book) g.B.Book.COST l.amounts l.i (m.balances l.book) (m.lines l.book)
    × m.kept l.initial.book l.book
