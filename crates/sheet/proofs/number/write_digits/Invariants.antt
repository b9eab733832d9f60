use Rattle.std.proofs.Common.{◌≡◌, take, replicate}
use Rattle.sheet.proofs.Fills.{Filled}
use Rattle.sheet.proofs.number.write_digits.Given as goal

abbrev pub invariant-loop-at : goal.invariant-loop-at
invariant-loop-at l = Filled l.number l.width l.at l.column l.left × (l.initial.column ≡ replicate l.width 32 → take l.at l.column ≡ replicate l.at 32)
