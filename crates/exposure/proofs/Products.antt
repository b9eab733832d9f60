-- Products of three numbers: how large, in another order, and as the code computes them.
use Rattle.std.proofs.Common.{◌≡◌, ℕ, ◌≤◌, ℤ, pos, ◌*ℤ◌, nat_abs, sym, ap, ◌∙◌, subst, mul_assoc, add-mul, mul-le-mul, mul-add, arith, w64, SFits, to_z, of_z}
use borrow.Author.Differences.{same_in, product_is}
use lib.IntN.{*ℤ_comm}
use Rattle.std.proofs.lemmas.Int.{ints, unsigned_abs-mul}

*ℤ_assoc : (a b c : ℤ) → (a *ℤ b) *ℤ c ≡ a *ℤ (b *ℤ c)
*ℤ_assoc a b c = same_in _ _ (rw ((product_is (a *ℤ b) c).0, (product_is (a *ℤ b) c).1, (product_is a (b *ℤ c)).0, (product_is a (b *ℤ c)).1, (product_is a b).0, (product_is a b).1, (product_is b c).0, (product_is b c).1) (simp (mul-add, add-mul, mul_assoc) (omega arith)))

-- the same product, from the other end
pub turned : (a b c : ℤ) → a *ℤ b *ℤ c ≡ c *ℤ b *ℤ a
turned a b c = *ℤ_comm (a *ℤ b) c ∙ ap (λ z. c *ℤ z) (*ℤ_comm a b) ∙ sym (*ℤ_assoc c b a)

small_fits : (z : ℤ) → nat_abs z ≤ 1000000000000000 → SFits w64 z
small_fits z h = omega (arith, ints)

back : (z : ℤ) → nat_abs z ≤ 1000000000000000 → to_z w64 (of_z w64 z) ≡ z
back z h = omega (arith, ints)

-- a position, a size, and how far a price moves
module _ (a c : ℤ) (n : ℕ) (ha : nat_abs a ≤ 1000) (hn : n ≤ 1000) (hc : nat_abs c ≤ 1000000000) where
  two : nat_abs (a *ℤ pos n) ≤ 1000000
  two = rw unsigned_abs-mul (mul-le-mul ha hn)

  pub three : nat_abs (a *ℤ pos n *ℤ c) ≤ 1000000000000000
  three = rw unsigned_abs-mul (mul-le-mul two hc)

  computed : to_z w64 (of_z w64 (to_z w64 (of_z w64 a) *ℤ to_z w64 n)) *ℤ to_z w64 (of_z w64 c) ≡ a *ℤ pos n *ℤ c
  computed =
      let e : to_z w64 n ≡ pos n = omega (arith, ints) in
      let f : to_z w64 (of_z w64 a) *ℤ to_z w64 n ≡ a *ℤ pos n = λ i. back a (omega arith) i *ℤ e i in
      let g = ap (λ z. to_z w64 (of_z w64 z)) f ∙ back (a *ℤ pos n) (omega (arith, two)) in
      λ i. g i *ℤ back c (omega arith) i

  pub computed_fits : SFits w64 (to_z w64 (of_z w64 (to_z w64 (of_z w64 a) *ℤ to_z w64 n)) *ℤ to_z w64 (of_z w64 c))
  computed_fits = subst (SFits w64) (sym computed) (small_fits _ three)

  pub computed_is : to_z w64 (of_z w64 (to_z w64 (of_z w64 (to_z w64 (of_z w64 a) *ℤ to_z w64 n)) *ℤ to_z w64 (of_z w64 c))) ≡ a *ℤ pos n *ℤ c
  computed_is = ap (λ z. to_z w64 (of_z w64 z)) computed ∙ back _ three
