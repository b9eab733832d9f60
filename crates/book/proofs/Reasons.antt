-- The answer to postings has its reason.
use Rattle.std.proofs.Common.{◌≡◌, ℕ, zero, suc, ◌+◌, ◌*◌, ◌<◌, Bool, true, false, cond, ltb, List, [], ◌∷◌, length, get_or, ℤ, pos, ◌+ℤ◌, Some, None, Ok, Err, Option, Result, sym, refl, ap, ◌∙◌, subst, inl, inr, arith}
use lib.IntN.{+ℤ_idr}
use Rattle.std.proofs.lemmas.Bool.{cases_Bool, cond-true, cond-false, cond_both, both_ways, ltb-true, ltb-false}
use Rattle.terms.specs.declared.fault.Fault.{Fault}
use Rattle.terms.specs.declared.fault.Fault.TheVariants.{NoLines}
use Rattle.book.specs.Balances.{in_bounds, is_account, of_account}
use Rattle.book.specs.Postings.{postings, lowest_out, answer_by, all_answer}
use Rattle.book.specs.Reasons.{Inside, Lowest, Reason, made, out_of_bounds, no_lines}
use Rattle.book.proofs.Accounts.{account_at, of_account_at, of_no_account, by_account}
use Rattle.book.proofs.Bounds.{Bounded}

none_parts : (t : Bool) (r : Option ℕ) (n : ℕ) → cond t r (Some n) ≡ None → (t ≡ true) × (r ≡ None)
none_parts true r n e = (refl, e)
none_parts false r n e = let z : ◌≡◌ {A = ℕ} 0 1 = cc in absurd (omega arith)

-- where none is out, each place is within bounds
pub none_inside : (n : ℕ) (bs ms : List ℤ) (i : ℕ) → lowest_out n bs ms ≡ None → i < length bs → i < length ms → in_bounds (get_or bs i (pos 0) +ℤ get_or ms i (pos 0)) ≡ true
none_inside n [] ms i e h k = absurd (omega arith)
none_inside n (b ∷ bs) [] i e h k = absurd (omega arith)
none_inside n (b ∷ bs) (a ∷ ms) zero e h k = (none_parts (in_bounds (b +ℤ a)) _ n e).0
none_inside n (b ∷ bs) (a ∷ ms) (suc i) e h k = none_inside (n + 1) bs ms i (none_parts (in_bounds (b +ℤ a)) _ n e).1 (omega arith) (omega arith)

-- the place of the lowest that is out, and the places before it
record Place (n : ℕ) (bs ms : List ℤ) (m : ℕ) : Type 0 where
  i : ℕ
  is : m ≡ n + i
  within : i < length bs
  out : in_bounds (get_or bs i (pos 0) +ℤ get_or ms i (pos 0)) ≡ false
  before : (k : ℕ) → k < i → in_bounds (get_or bs k (pos 0) +ℤ get_or ms k (pos 0)) ≡ true

first_or : (b a : ℤ) (bs ms : List ℤ) (i : ℕ) → in_bounds (b +ℤ a) ≡ true → ((k : ℕ) → k < i → in_bounds (get_or bs k (pos 0) +ℤ get_or ms k (pos 0)) ≡ true) → (k : ℕ) → k < suc i → in_bounds (get_or (b ∷ bs) k (pos 0) +ℤ get_or (a ∷ ms) k (pos 0)) ≡ true
first_or b a bs ms i t before zero h = t
first_or b a bs ms i t before (suc k) h = before k (omega arith)

lowest_place : (n : ℕ) (bs ms : List ℤ) (m : ℕ) → lowest_out n bs ms ≡ Some m → Place n bs ms m
lowest_place n [] ms m e = let z : ◌≡◌ {A = ℕ} 0 1 = cc in absurd (omega arith)
lowest_place n (b ∷ bs) [] m e = let z : ◌≡◌ {A = ℕ} 0 1 = cc in absurd (omega arith)
lowest_place n (b ∷ bs) (a ∷ ms) m e =
    elim (cases_Bool (in_bounds (b +ℤ a))) [
      | inl t ↦
          let p = lowest_place (n + 1) bs ms m (sym (cond-true _ _ _ t) ∙ e) in
          record { i = suc p.i; is = omega (arith, p.is); within = omega (arith, p.within); out = p.out; before = first_or b a bs ms p.i t p.before }
      | inr t ↦
          let here : Some n ≡ Some m = sym (cond-false _ _ _ t) ∙ e in
          let same : n ≡ m = cc in
          record { i = 0; is = omega arith; within = omega arith; out = t; before = λ k h. absurd (omega arith) }
    ]

-- ---- told of accounts

sum_at : (bs ms : List ℤ) (i : ℕ) → i < 64 → of_account bs (i + 1) +ℤ of_account ms (i + 1) ≡ get_or bs i (pos 0) +ℤ get_or ms i (pos 0)
sum_at bs ms i h = λ j. of_account_at bs i h j +ℤ of_account_at ms i h j

sum_none : (bs ms : List ℤ) (n : ℕ) → is_account n ≡ false → of_account bs n +ℤ of_account ms n ≡ pos 0
sum_none bs ms n h = λ j. of_no_account bs n h j +ℤ of_no_account ms n h j

-- of those accounts that P tells, where it is known of their places
inside_where : (bs ms : List ℤ) (P : ℕ → Type 0) → ((i : ℕ) → i < 64 → P (i + 1) → in_bounds (get_or bs i (pos 0) +ℤ get_or ms i (pos 0)) ≡ true) → (n : ℕ) → P n → in_bounds (of_account bs n +ℤ of_account ms n) ≡ true
inside_where bs ms P places =
    by_account (λ n. P n → in_bounds (of_account bs n +ℤ of_account ms n) ≡ true)
    (λ i h p. ap in_bounds (sum_at bs ms i h) ∙ places i h p)
    (λ n h p. ap in_bounds (sum_none bs ms n h))

module _ (bs : List ℤ) (left cost : ℕ) (ms : List ℤ) (long : length bs ≡ 64) (all : length ms ≡ 64) (bounded : Bounded bs) where
  lowest_account : (m : ℕ) → Place 1 bs ms m → Lowest bs ms m
  lowest_account m p =
      let i = p.i in
      let h : i < 64 = omega (arith, p.within) in
      let is : i + 1 ≡ m = omega (arith, p.is) in
      let stays : of_account ms (i + 1) ≡ pos 0 → in_bounds (get_or bs i (pos 0) +ℤ get_or ms i (pos 0)) ≡ true = λ z. ap (λ a. in_bounds (get_or bs i (pos 0) +ℤ a)) (sym (of_account_at ms i h) ∙ z) ∙ ap in_bounds (+ℤ_idr (get_or bs i (pos 0))) ∙ bounded i in
      subst (Lowest bs ms) is (record {
        account = account_at i h;
        due = λ z. both_ways _ p.out (stays z);
        out = ap in_bounds (sum_at bs ms i h) ∙ p.out;
        below = inside_where bs ms (λ k. k < i + 1) (λ j l before. p.before j (omega arith));
      })

  none_lowest : lowest_out 1 bs ms ≡ None → Inside bs ms
  none_lowest e n = inside_where bs ms (λ _. Unit {0}) (λ i h _. none_inside 1 bs ms i e (omega arith) (omega arith)) n tt

  reason_by : (o : Option ℕ) → lowest_out 1 bs ms ≡ o → Reason bs left cost ms (answer_by o left (cost * postings ms))
  reason_by (Some n) e = out_of_bounds n (lowest_account n (lowest_place 1 bs ms n e))
  reason_by None e =
      cond_both (ltb left (cost * postings ms)) (Err NoLines) (Ok tt) (Reason bs left cost ms)
      (λ t. no_lines (none_lowest e) (ltb-true _ _ t))
      (λ t. made (none_lowest e) (ltb-false _ _ t))

  pub reason : (r : Result (Unit {0}) Fault) → r ≡ all_answer bs left cost ms → Reason bs left cost ms r
  reason r e = subst (Reason bs left cost ms) (sym e) (reason_by (lowest_out 1 bs ms) refl)
