-- A forced close: who deals with whom, and how many contracts at most.
use Rattle.std.proofs.Common.{◌≡◌, ℕ, zero, suc, ◌+◌, ◌-◌, ◌≤◌, min, Bool, true, false, cond, ℤ, nat_abs, refl, ap, arith}
use Rattle.steps.specs.State.{State, position}
use Rattle.steps.specs.Deals.{is_long, closing, first_from, enough, forced}
use Rattle.steps.specs.Steps.{trade_deal}

-- on either side it is the same count
pub closing_count : (s : State) (c o i n q : ℕ) → (closing s c o i n q).count ≡ n
closing_count s c o i n q = elim (is_long (position s c i)) as (λ b. (cond b (trade_deal o c i n q) (trade_deal c o i n q)).count ≡ n) [ true ↦ refl | false ↦ refl ]

first_from_most : (p : ℕ → Bool) (k more : ℕ) → first_from p k more ≤ k + more
first_from_most p k zero = omega arith
first_from_most p k (suc more) =
    let later = first_from_most p (k + 1) more in
    elim (p k) as (λ b. cond b k (first_from p (k + 1) more) ≤ k + suc more) [ true ↦ omega arith | false ↦ omega arith ]

-- no more than the position is closed
pub within : (s : State) (c i offer q : ℕ) {n : ℕ} {z : ℤ} → n ≡ forced s c i offer q → z ≡ position s c i → 1 ≤ nat_abs z → n ≤ nat_abs z
unfolding forced
within s c i offer q e p h =
    let held = ap nat_abs p in
    let most = first_from_most (enough s c i q) 1 (min offer (nat_abs (position s c i)) - 1) in
    omega arith
