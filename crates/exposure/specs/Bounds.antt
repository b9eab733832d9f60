-- How large the margins of all positions can be.
use Rattle.std.specs.Prelude.{ℕ, ◌≤◌}

-- 24 series, each at most 10^15
pub record FitsAll (margins : ℕ × ℕ) : Type 0 where
  pub ordered : margins.1 ≤ margins.0
  pub bounded : margins.0 ≤ 24000000000000000
