-- The question that a margin rule answers: of a series, its size and its price, and a count of contracts.
use Rattle.std.specs.Prelude.{ℕ, Bool, cond, ◌&&◌, Some, None, Option, is_some, nat_le}
use Rattle.terms.specs.Ranges.{in_range}

-- the number is in the range from low to high
abbrev pub within : ℕ → ℕ → ℕ → Bool
within low high n = is_some (in_range low high n)

-- every number of the question is in its range
abbrev pub askable : ℕ → ℕ → ℕ → ℕ → Bool
askable series size price count =
    within 1 24 series && (within 1 1000 size && (within 1 1000000000 price && nat_le count 1000))

-- the numbers of a question that is in range
abbrev pub in_ranges : ℕ → ℕ → ℕ → ℕ → Option (ℕ × ℕ × ℕ × ℕ)
in_ranges series size price count = cond (askable series size price count) (Some (series, size, price, count)) None

-- the answers: to series, size, price and count, the initial and the minimum margin
abbrev pub Answers : Type 0
Answers = ℕ → ℕ → ℕ → ℕ → ℕ × ℕ

-- such answers where the question is in range, and nothing elsewhere
abbrev pub if_askable : Answers → Answers
if_askable A series size price count = cond (askable series size price count) (A series size price count) (0, 0)
