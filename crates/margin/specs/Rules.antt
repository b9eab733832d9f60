-- The answers of the three rules.
use Rattle.std.specs.Prelude.{ℕ, ◌+◌, ◌*◌, ◌/◌, ◌≤◌, min}
use Rattle.margin.specs.Question.{Answers, if_askable}
use Rattle.margin.specs.Laws.{most}

-- so much a contract
abbrev pub flat : ℕ → ℕ → ℕ → ℕ × ℕ
flat initial minimum count = (initial * count, minimum * count)

-- so many ten-thousandths of an amount, rounded up
abbrev pub portion : ℕ → ℕ → ℕ
portion amount parts = (amount * parts + 9999) / 10000

-- the least whole number that reaches the exact portion
pub record RoundedUp (amount parts r : ℕ) : Type 0 where
  pub reaches : amount * parts ≤ r * 10000
  pub least : (n : ℕ) → amount * parts ≤ n * 10000 → r ≤ n

-- a rate of the value, and a part of that
abbrev pub share : ℕ → ℕ → ℕ → ℕ → ℕ → ℕ × ℕ
share rate part price size count =
    (portion (price * size * count) rate, portion (portion (price * size * count) rate) part)

-- so much more a contract, up to the most
abbrev pub raised : ℕ → ℕ → ℕ × ℕ → ℕ × ℕ
raised extra count margins = (min most (margins.0 + extra * count), min most (margins.1 + extra * count))

-- a flat rule, by what each series asks a contract
abbrev pub flat_rule : (ℕ → ℕ × ℕ) → Answers
flat_rule each = if_askable (λ series size price count. flat (each series).0 (each series).1 count)

abbrev pub share_rule : ℕ → ℕ → Answers
share_rule rate part = if_askable (λ series size price count. share rate part price size count)

-- over any other answers
abbrev pub additional_rule : ℕ → Answers → Answers
additional_rule extra A = if_askable (λ series size price count. raised extra count (A series size price count))
