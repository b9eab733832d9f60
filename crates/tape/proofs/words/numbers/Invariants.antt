use Rattle.std.proofs.Common.{◌≡◌, ◌-◌, ◌++◌, length, take}
use Rattle.std.specs.Option.{option_map}
use Rattle.tape.specs.Words.{numbers_of}
use Rattle.tape.proofs.words.numbers.Given as goal

abbrev pub invariant-loop-number : goal.invariant-loop-number
invariant-loop-number g l =
    (length l.number-items ≡ g.row.N)
    × (option_map (λ ns. take l.number-index l.number-items ++ ns) (numbers_of (g.row.N - l.number-index) l.rest) ≡ numbers_of g.row.N l.fn.text)
