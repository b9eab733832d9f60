-- Balances within bounds.
use Rattle.std.proofs.Common.{◌≡◌, ℕ, zero, suc, true, List, get_or, replicate, ℤ, pos, ◌+ℤ◌, is_some, refl, arith}
use Rattle.book.specs.Balances.{in_bounds, new_balance}

-- each balance of a list is within bounds
abbrev pub Bounded : List ℤ → Type 0
Bounded xs = (k : ℕ) → in_bounds (get_or xs k (pos 0)) ≡ true

pub replicate_bounded : (n : ℕ) (z : ℤ) → in_bounds z ≡ true → Bounded (replicate n z)
replicate_bounded zero z h k = refl
replicate_bounded (suc n) z h zero = h
replicate_bounded (suc n) z h (suc k) = replicate_bounded n z h k

pub new_balance_some : (b a : ℤ) → is_some (new_balance b a) ≡ in_bounds (b +ℤ a)
new_balance_some b a = grind arith
