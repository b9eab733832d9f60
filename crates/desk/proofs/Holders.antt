-- Amounts for the customers, written one after the other.
use Rattle.std.proofs.Common.{◌≡◌, ℕ, ◌+◌, ◌<◌, ◌≤◌, cond, ◌&&◌, leb, ◌≢◌, List, map, length, get_or, set, ℤ, pos, sym, refl, ◌∙◌, inl, inr, arith, length-set, get_or-set_other, get_or-set_same, below_more}
use Rattle.std.specs.List.{range_with_len}
use Rattle.std.proofs.lemmas.List.{get_or-replicate}
use Rattle.std.proofs.lemmas.Bool.{cond-true, cond-false, le-leb, lt-leb, cases_lt, and_right}
use Rattle.steps.specs.State.{house, is_customer}
use Rattle.desk.proofs.Posts.{zeros, by_account}

-- those of the first i accounts are written, the others are still 0
pub record Written (f : ℕ → ℤ) (xs : List ℤ) (i : ℕ) : Type 0 where
  pub long : length xs ≡ 64
  pub done : (k : ℕ) → k < i → get_or xs k (pos 0) ≡ f (k + 1)
  pub rest : (k : ℕ) → i ≤ k → k < 64 → get_or xs k (pos 0) ≡ pos 0

module _ (f : ℕ → ℤ) where
  pub none_written : Written f zeros 0
  none_written = record { long = refl; done = λ k h. absurd (omega arith); rest = λ k h l. get_or-replicate 64 k (pos 0) (pos 0) l }

  pub one_written : (xs : List ℤ) (i : ℕ) (z : ℤ) → i < 64 → z ≡ f (i + 1) → Written f xs i → Written f (set xs i z) (i + 1)
  one_written xs i z h e w =
      let lt : i < length xs = omega (arith, w.long) in
      record {
        long = length-set xs i z ∙ w.long;
        done = below_more _ _ (λ k l. let ne : k ≢ i = omega arith in rw get_or-set_other (w.done k l)) (rw get_or-set_same e);
        rest = λ k l m. let ne : k ≢ i = omega arith in rw get_or-set_other (w.rest k (omega arith) m);
      }

-- an amount for each customer
module _ (g : ℕ → ℤ) where
  abbrev pub for_customers : ℕ → ℤ
  for_customers n = cond (is_customer n) (g n) (pos 0)

  pub for_customer : (i : ℕ) → i < 56 → g (i + 1) ≡ for_customers (i + 1)
  for_customer i h = sym (cond-true (is_customer (i + 1)) (g (i + 1)) (pos 0) (λ j. le-leb 1 (i + 1) (omega arith) j && le-leb (i + 1) 56 (omega arith) j))

  pub all_written : (xs : List ℤ) (i : ℕ) → i ≡ 56 → Written for_customers xs i → xs ≡ map for_customers (range_with_len 1 house)
  all_written xs i e w =
      by_account for_customers xs w.long
      (λ k h. elim (cases_lt k 56) [
        | inl l ↦ w.done k (omega (arith, e))
        | inr l ↦ w.rest k (omega (arith, e)) h ∙ sym (cond-false (is_customer (k + 1)) (g (k + 1)) (pos 0) (and_right (leb 1 (k + 1)) (leb (k + 1) 56) (lt-leb (k + 1) 56 (omega arith))))
      ])
