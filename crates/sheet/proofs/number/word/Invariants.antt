use Rattle.std.proofs.Common.{◌≡◌, ◌^◌, ◌<◌, drop}
use Rattle.sheet.specs.Numbers.{digits_of}
use Rattle.sheet.proofs.number.word.Given as goal

abbrev pub invariant-loop-b : goal.invariant-loop-b
invariant-loop-b l = (l.so_far < 10 ^ l.b-index) × (digits_of l.so_far (drop l.b-index l.digits) ≡ digits_of 0 l.digits)
