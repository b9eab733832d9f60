use Rattle.std.proofs.Common.{◌≡◌, ◌+◌, length, drop, vec_items}
use Rattle.tape.specs.Tapes.{read_lines, day_of}
use Rattle.tape.proofs.Days.{parts_of}
use Rattle.tape.proofs.read_day.Given as goal

abbrev pub invariant-loop-i : goal.invariant-loop-i
invariant-loop-i l =
    (read_lines (length l.yielded + 1) (drop (length l.yielded) (parts_of l.text)) l.header (vec_items l.trades) ≡ day_of l.text)
