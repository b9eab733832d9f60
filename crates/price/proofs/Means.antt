-- How a mean stands to the prices that it is made of.
use Rattle.std.proofs.Common.{◌≡◌, ℕ, ◌+◌, ◌*◌, ◌<◌, ◌≤◌, mul-le-mul_right, mul_assoc, add-mul, div-mul-le_self, mul_left_comm, arith}
use native.Mathlib.Nat.{lt-div-mul-add, div-eq_of_lt-le}
use Rattle.std.proofs.lemmas.Nat.{le-div, div_below}
use Rattle.price.specs.Means.{nearest, Nearest}

-- twice a product, as the quotient has it
twice : (k volume : ℕ) → k * (2 * volume) ≡ 2 * (k * volume)
twice k volume = mul_left_comm k 2 volume

module _ (value volume : ℕ) (some : 0 < volume) where
  pub mean_low : (k : ℕ) → k * volume ≤ value → k ≤ nearest value volume
  mean_low k h = le-div k (2 * value + volume) (2 * volume) (omega arith) (omega (arith, twice k volume))

  pub mean_high : (k : ℕ) → value ≤ k * volume → nearest value volume ≤ k
  mean_high k h =
      let below = div_below (2 * value + volume) (2 * volume) (k + 1) (omega arith) (omega (arith, add-mul k 1 (2 * volume), twice k volume)) in
      omega arith

  -- the quotient is the nearest rial
  pub mean_nearest : Nearest value volume (nearest value volume)
  mean_nearest =
      let q = nearest value volume in
      let more : 0 < 2 * volume = omega arith in
      record {
        traded = some;
        above = omega (arith, div-mul-le_self (2 * value + volume) (2 * volume), twice q volume, mul_assoc 2 q volume);
        below = omega (arith, lt-div-mul-add {a = 2 * value + volume} more, twice q volume, mul_assoc 2 (q + 1) volume, add-mul q 1 volume);
      }

-- and no other number is
pub nearest_only : (value volume p : ℕ) → Nearest value volume p → nearest value volume ≡ p
nearest_only value volume p n =
    div-eq_of_lt-le (2 * volume)
    (omega (arith, n.above, twice p volume, mul_assoc 2 p volume))
    (omega (arith, n.below, twice (p + 1) volume, mul_assoc 2 (p + 1) volume))

-- the money of a trade lies between its contracts at the lowest price and at the highest
pub weighed : (p n : ℕ) → 1 ≤ p → p ≤ 1000000000 → (n ≤ p * n) × (p * n ≤ n * 1000000000)
weighed p n low high =
    let l = mul-le-mul_right n low in
    let h = mul-le-mul_right n high in
    (omega arith, omega arith)
