use Rattle.std.proofs.Common.{◌≡◌, ◌*◌, ◌≤◌, List, length, drop, vec_items, vec_len, vec_capacity, Result}
use Rattle.std.specs.Iterator.Adapters.{enumerate_source, enumerate_count}
use Rattle.std.specs.Slice.Iter.{chunks_exact_rest, chunks_exact_size}
use Rattle.terms.specs.declared.call.Answer.{Answer}
use Rattle.terms.specs.declared.fault.Fault.{Fault}
use Rattle.clearing.specs.Made.{state_of}
use Rattle.day_sheet.proofs.Pages.{Page}
use Rattle.day_sheet.proofs.whole.clear_lines.Given as goal

abbrev pub invariant-loop-index : goal.invariant-loop-index
invariant-loop-index g l =
    let cut = enumerate_source l.index-iterator in
    let done = enumerate_count l.index-iterator in
    (os : List (Result Answer Fault))
    × Page (state_of g.B.Book g.R.MarginRule l.initial.room) l.sheet done os (vec_items l.page) (state_of g.B.Book g.R.MarginRule l.room)
    × (vec_len l.page ≡ done * 34)
    × (vec_capacity l.initial.page ≤ vec_capacity l.page)
    × (l.room.desk.book.ghost_name ≡ l.initial.room.desk.book.ghost_name)
    × g.B.Book.kept l.initial.room.desk.book.now l.room.desk.book.now
    × (chunks_exact_size cut ≡ 50)
    × (chunks_exact_rest cut ≡ drop (done * 50) l.sheet)
    × (done * 50 ≤ length l.sheet)
