-- When so many contracts suffice for a forced close.
use Rattle.std.specs.Prelude.{ℕ, ◌+◌, ◌-◌, Bool, cond, List, get_or, ℤ, pos, ◌+ℤ◌, neg_ℤ, slice_index_or, slice_set, unsigned_abs}
use Rattle.margin.specs.Question.{Answers}
use Rattle.steps.specs.State.{Series, no_series, all_series}
use Rattle.steps.specs.Margins.{part, asks, reaches}
use Rattle.steps.specs.Deals.{is_long, sold, bought}

-- what a customer is posted that closes so many: it sells a long position, and buys a short one back
abbrev pub posted : Series → ℤ → ℕ → ℕ → ℤ
posted s held price count = cond (is_long held) (sold s count price) (bought s count price)

-- what is left of its position
abbrev pub closed : ℤ → ℕ → ℤ
closed held count = held +ℤ cond (is_long held) (neg_ℤ (pos count)) (pos count)

-- with so many of the position in series i closed, the balance reaches the initial margin of all positions
abbrev pub suffices : Answers → List Series → List ℤ → ℕ → ℤ → ℕ → ℕ → Bool
suffices rule ss ps i balance price count =
    let held = get_or ps (i - 1) (pos 0) in
    reaches (balance +ℤ posted (slice_index_or ss (i - 1) no_series) held price count) (asks rule ss (slice_set ps (i - 1) (closed held count)) all_series).0

-- the same for one position, with the initial margin of the others summed beforehand
abbrev pub suffices_beside : Answers → ℕ → ℕ → Series → ℤ → ℤ → ℕ → ℕ → Bool
suffices_beside rule others i s held balance price count =
    reaches (balance +ℤ posted s held price count) (others + (part rule i s (unsigned_abs held - count)).0)
