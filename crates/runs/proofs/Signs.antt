-- Positions that move towards nought.
use Rattle.std.proofs.Common.{◌≡◌, ℕ, suc, ◌+◌, ◌≤◌, true, false, ℤ, pos, negsuc, ◌+ℤ◌, neg_ℤ, nat_abs, refl, ap, arith}
use Rattle.std.proofs.lemmas.Int.{ints}
use Rattle.std.proofs.lemmas.Bool.{eqb-true, eq-eqb}
use Rattle.steps.specs.Deals.{closes, is_long}
use Rattle.runs.specs.Notices.{Shrunk}

pub unmoved : (z : ℤ) → Shrunk z z
unmoved (pos n) = (n, refl, omega arith)
unmoved (negsuc n) = (suc n, refl, omega arith)

pub to_nought : (z : ℤ) → Shrunk z (pos 0)
to_nought (pos n) = (0, refl, omega arith)
to_nought (negsuc n) = (0, refl, omega arith)

between : (z by w : ℤ) → w ≡ z +ℤ by → nat_abs w + nat_abs by ≡ nat_abs z → Shrunk z w
between (pos n) by (pos k) sum sizes = (k, refl, omega arith)
between (pos n) by (negsuc k) sum sizes = absurd (omega (arith, ints))
between (negsuc n) by (pos k) sum sizes = (0, (let none : k ≡ 0 = omega (arith, ints) in ap pos none), omega arith)
between (negsuc n) by (negsuc k) sum sizes = (suc k, refl, omega arith)

pub closing_shrinks : (z by : ℤ) → closes z by ≡ true → Shrunk z (z +ℤ by)
closing_shrinks z by h = between z by (z +ℤ by) refl (eqb-true (nat_abs (z +ℤ by) + nat_abs by) (nat_abs z) h)

-- a long position that sells, and a short one that buys, at most what it holds
pub sells : (z : ℤ) (k : ℕ) → is_long z ≡ true → k ≤ nat_abs z → closes z (neg_ℤ (pos k)) ≡ true
sells (pos n) k long h = eq-eqb (nat_abs (pos n +ℤ neg_ℤ (pos k)) + nat_abs (neg_ℤ (pos k))) n (omega (arith, ints))
sells (negsuc n) k long h = absurd (let z : ◌≡◌ {A = ℕ} 0 1 = cc in omega arith)

pub buys : (z : ℤ) (k : ℕ) → is_long z ≡ false → k ≤ nat_abs z → closes z (pos k) ≡ true
buys (pos n) k short h = absurd (let z : ◌≡◌ {A = ℕ} 0 1 = cc in omega arith)
buys (negsuc n) k short h = eq-eqb (nat_abs (negsuc n +ℤ pos k) + k) (suc n) (omega (arith, ints))
