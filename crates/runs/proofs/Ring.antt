-- Products of integers, for linear arithmetic.
use Rattle.std.proofs.Common.{◌≡◌, ℕ, ◌+◌, ◌*◌, ℤ, ◌+ℤ◌, ◌-ℤ◌, ◌*ℤ◌, neg_ℤ, sym, ap, ◌∙◌, mul_assoc, add-mul, mul-add, arith}
use lib.IntN.{*ℤ_comm, zero-*ℤ, *ℤ-zero}
use borrow.Author.Differences.{up, down, same_in, sum_is_lem, neg_is, product_is}
use Rattle.book.proofs.Added.{linear}

pub *ℤ-+ℤ : (a b c : ℤ) → a *ℤ (b +ℤ c) ≡ a *ℤ b +ℤ a *ℤ c
*ℤ-+ℤ a b c =
    let p = ap (λ (n : ℕ). up a * n) (sum_is_lem b c) in
    let q = ap (λ (n : ℕ). down a * n) (sum_is_lem b c) in
    let p' : up a * up (b +ℤ c) + up a * down b + up a * down c ≡ up a * down (b +ℤ c) + up a * up b + up a * up c = simp mul-add at p in
    let q' : down a * up (b +ℤ c) + down a * down b + down a * down c ≡ down a * down (b +ℤ c) + down a * up b + down a * up c = simp mul-add at q in
    same_in _ _ (omega (arith, product_is a (b +ℤ c), product_is a b, product_is a c, sum_is_lem (a *ℤ b) (a *ℤ c)))

pub +ℤ-*ℤ : (a b c : ℤ) → (a +ℤ b) *ℤ c ≡ a *ℤ c +ℤ b *ℤ c
+ℤ-*ℤ a b c = *ℤ_comm (a +ℤ b) c ∙ *ℤ-+ℤ c a b ∙ (λ i. *ℤ_comm c a i +ℤ *ℤ_comm c b i)

pub *ℤ_neg : (a b : ℤ) → a *ℤ neg_ℤ b ≡ neg_ℤ (a *ℤ b)
*ℤ_neg a b = same_in _ _ (rw ((product_is a (neg_ℤ b)).0, (product_is a (neg_ℤ b)).1, (neg_is b).0, (neg_is b).1) (omega (arith, neg_is (a *ℤ b), product_is a b)))

pub neg-*ℤ : (a b : ℤ) → neg_ℤ a *ℤ b ≡ neg_ℤ (a *ℤ b)
neg-*ℤ a b = *ℤ_comm (neg_ℤ a) b ∙ *ℤ_neg b a ∙ ap neg_ℤ (*ℤ_comm b a)

pub *ℤ_assoc : (a b c : ℤ) → (a *ℤ b) *ℤ c ≡ a *ℤ (b *ℤ c)
*ℤ_assoc a b c = same_in _ _ (rw ((product_is (a *ℤ b) c).0, (product_is (a *ℤ b) c).1, (product_is a (b *ℤ c)).0, (product_is a (b *ℤ c)).1, (product_is a b).0, (product_is a b).1, (product_is b c).0, (product_is b c).1) (simp (mul-add, add-mul, mul_assoc) (omega arith)))

-- a product of sums as a sum of products
pub ruleset expand = (*ℤ-+ℤ, +ℤ-*ℤ, *ℤ_neg, neg-*ℤ, *ℤ_assoc, zero-*ℤ, *ℤ-zero)

-- a gain at a new price: the gain at the old one, and what the price moved
pub gain_moved : (q p t size n : ℤ) → (q -ℤ t) *ℤ size *ℤ n ≡ (p -ℤ t) *ℤ size *ℤ n +ℤ n *ℤ size *ℤ (q -ℤ p)
gain_moved q p t size n =
    let b : n *ℤ size *ℤ (q -ℤ p) ≡ (q -ℤ p) *ℤ (size *ℤ n) = *ℤ_comm (n *ℤ size) (q -ℤ p) ∙ ap (λ z. (q -ℤ p) *ℤ z) (*ℤ_comm n size) in
    *ℤ_assoc (q -ℤ t) size n ∙ over q p t (size *ℤ n) ∙ (λ i. sym (*ℤ_assoc (p -ℤ t) size n) i +ℤ sym b i)
  where
    over : (q p t k : ℤ) → (q -ℤ t) *ℤ k ≡ (p -ℤ t) *ℤ k +ℤ (q -ℤ p) *ℤ k
    over q p t k = simp expand (omega (arith, linear))
