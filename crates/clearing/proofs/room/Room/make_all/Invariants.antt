use Rattle.std.proofs.Common.{◌≡◌, ◌≤◌, length, take, vec_items, vec_len, vec_capacity}
use Rattle.runs.specs.Law.{Plays}
use Rattle.clearing.specs.Made.{state_of}
use Rattle.clearing.proofs.room.Room.make_all.Given as goal

abbrev pub invariant-loop-call : goal.invariant-loop-call
invariant-loop-call g l =
    (vec_len l.answers ≡ l.call-index)
    × (length l.calls ≤ vec_capacity l.answers)
    × Plays (state_of g.B.Book g.R.MarginRule l.initial.self) (take l.call-index l.calls) (vec_items l.answers) (state_of g.B.Book g.R.MarginRule l.self)
    × (l.self.desk.book.ghost_name ≡ l.initial.self.desk.book.ghost_name)
    × g.B.Book.kept l.initial.self.desk.book.now l.self.desk.book.now
