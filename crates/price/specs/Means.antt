-- The mean of prices, each weighted by its contracts.
use Rattle.std.specs.Prelude.{ℕ, ◌+◌, ◌*◌, ◌/◌, ◌<◌, ◌≤◌, cond, Some, None, Option, ◌==◌}

-- value ÷ volume to the nearest rial, halves up
abbrev pub nearest : ℕ → ℕ → ℕ
nearest value volume = (2 * value + volume) / (2 * volume)

-- absent without volume
abbrev pub mean : ℕ → ℕ → Option ℕ
mean value volume = cond (volume == 0) None (Some (nearest value volume))

-- the same as a relation: p is no more than half a rial above value ÷ volume, and less than half a rial below it
pub record Nearest (value volume p : ℕ) : Type 0 where
  pub traded : 0 < volume
  pub above : 2 * p * volume ≤ 2 * value + volume
  pub below : 2 * value + volume < 2 * (p + 1) * volume
