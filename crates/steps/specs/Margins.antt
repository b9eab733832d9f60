-- The margins of a customer: the sums over its positions.
use Rattle.std.specs.Prelude.{ℕ, zero, suc, ◌+◌, Bool, cond, List, ℤ, pos, ◌==◌, int_le, int_lt, slice_index_or, unsigned_abs}
use Rattle.margin.specs.Question.{Answers}
use Rattle.steps.specs.State.{State, Series, no_series, all_series, customer, balance}

abbrev pub both : ℕ × ℕ → ℕ × ℕ → ℕ × ℕ
both a b = (a.0 + b.0, a.1 + b.1)

-- what a position of so many contracts asks: nothing where there is none
abbrev pub part : Answers → ℕ → Series → ℕ → ℕ × ℕ
part rule i s n = cond (n == 0) (0, 0) (rule i s.size s.price n)

-- the initial and the minimum margin of the positions in the first n series
abbrev pub asks : Answers → List Series → List ℤ → ℕ → ℕ × ℕ
asks rule ss ps zero = (0, 0)
asks rule ss ps (suc n) = both (asks rule ss ps n) (part rule (suc n) (slice_index_or ss n no_series) (unsigned_abs (slice_index_or ps n (pos 0))))

abbrev pub margins : State → List ℤ → ℕ × ℕ
margins s ps = asks s.rule s.series ps all_series

abbrev pub margins_of : State → ℕ → ℕ × ℕ
margins_of s c = margins s (customer s c).positions

-- a balance at or above an initial margin, and one below a margin
abbrev pub reaches : ℤ → ℕ → Bool
reaches b margin = int_le (pos margin) b

abbrev pub lacks : ℤ → ℕ → Bool
lacks b margin = int_lt b (pos margin)

abbrev pub at_initial : State → ℕ → Bool
at_initial s c = reaches (balance s c) (margins_of s c).0

abbrev pub below_minimum : State → ℕ → Bool
below_minimum s c = lacks (balance s c) (margins_of s c).1
