-- One turn of each loop over the accounts.
use Rattle.std.proofs.Common.{◌≡◌, ℕ, suc, ◌+◌, ◌-◌, ◌*◌, ◌<◌, ◌≤◌, Bool, true, false, cond, eqb, List, length, get_or, take, drop, set, ℤ, pos, negsuc, ◌+ℤ◌, nat_abs, is_some, Some, None, Ok, Option, sym, refl, ap, not, ◌∙◌, mul-le-mul_left, mul-one, mul-add, add-one, arith, w64, SFits, of_z}
use Rattle.std.proofs.lemmas.List.{drop_more, set-get_or}
use Rattle.std.proofs.lemmas.List.Sums.{sum_by_more, sum_by-take-le}
use Rattle.std.proofs.lemmas.Int.{ints}
use Rattle.std.proofs.lemmas.Bool.{ne_eqb, cond-true, cond-false, le-ltb, and_from}
use Rattle.book.specs.Balances.{in_bounds, new_balance, of_account}
use Rattle.book.specs.Postings.{post_answer, posted_to, added, postings, lowest_out}
use Rattle.book.proofs.Accounts.{account_at, of_account_at}
use Rattle.book.proofs.Added.{get_or_added_front, added_more}
use Rattle.book.proofs.Bounds.{new_balance_some}
use Rattle.book.proofs.Reasons.{none_inside}

-- ---- an amount's bits, and whether it is 0

pub nonzero : (z : ℤ) → (of_z w64 z ≡ 0 → ⊥) → eqb (nat_abs z) 0 ≡ false
nonzero (pos n) h = ne_eqb n 0 h
nonzero (negsuc n) h = ne_eqb (suc n) 0 (λ e. omega arith)

pub is_zero : (z : ℤ) → SFits w64 z → of_z w64 z ≡ 0 → z ≡ pos 0
is_zero (pos n) f e = ap pos e
is_zero (negsuc n) f e = absurd (omega (arith, f.sfits))

-- ---- the test

-- account i + 1, with its balance b and the balance o after its amount
module _ (bs ms : List ℤ) (i : ℕ) (b : ℤ) (o : Option ℤ) (long : length bs ≡ 64) (all : length ms ≡ 64) (h : i < 64) (eb : b ≡ of_account bs (i + 1)) (eo : o ≡ new_balance b (get_or ms i (pos 0))) where
  lowest_more : lowest_out (i + 1) (drop i bs) (drop i ms) ≡ cond (is_some o) (lowest_out (i + 1 + 1) (drop (i + 1) bs) (drop (i + 1) ms)) (Some (i + 1))
  lowest_more =
      let a = get_or ms i (pos 0) in
      let hb : i < length bs = omega arith in
      let hm : i < length ms = omega arith in
      let told : in_bounds (get_or bs i (pos 0) +ℤ a) ≡ is_some o = ap (λ z. in_bounds (z +ℤ a)) (sym (eb ∙ of_account_at bs i h)) ∙ sym (ap is_some eo ∙ new_balance_some b a) in
      rw (drop_more bs i (pos 0) hb, drop_more ms i (pos 0) hm) (ap (λ t. cond t (lowest_out (i + 1 + 1) (drop (i + 1) bs) (drop (i + 1) ms)) (Some (i + 1))) told)

  pub lowest_here : is_some o ≡ false → lowest_out (i + 1) (drop i bs) (drop i ms) ≡ Some (i + 1)
  lowest_here t = lowest_more ∙ cond-false _ _ _ t

  pub lowest_on : is_some o ≡ true → lowest_out (i + 1) (drop i bs) (drop i ms) ≡ lowest_out (i + 1 + 1) (drop (i + 1) bs) (drop (i + 1) ms)
  lowest_on t = lowest_more ∙ cond-true _ _ _ t

-- ---- the count

turned : (b : Bool) → ◌≡◌ {A = ℕ} (cond (not b) 1 0) (cond b 0 1)
turned true = refl
turned false = refl

postings_more : (ms : List ℤ) (i : ℕ) → i < length ms → postings (take (i + 1) ms) ≡ postings (take i ms) + cond (eqb (nat_abs (get_or ms i (pos 0))) 0) 0 1
postings_more ms i h =
    sum_by_more (λ a. cond (not (eqb (nat_abs a) 0)) 1 0) ms i (pos 0) h
    ∙ ap (λ n. postings (take i ms) + n) (turned (eqb (nat_abs (get_or ms i (pos 0))) 0))

-- ---- the posting: the first i amounts are added to what the book held, and their lines taken

pub record Made (bs₀ : List ℤ) (left₀ cost : ℕ) (ms : List ℤ) (i : ℕ) (bs : List ℤ) (left : ℕ) : Type 0 where
  pub added_so_far : bs ≡ added bs₀ (take i ms)
  pub taken_so_far : left + cost * postings (take i ms) ≡ left₀

module _ (bs₀ ms : List ℤ) (left₀ cost : ℕ) (long : length ms ≡ 64) (i : ℕ) (h : i < 64) where
  -- a turn with nothing to post
  pub passed : (bs : List ℤ) (left : ℕ) → Made bs₀ left₀ cost ms i bs left → get_or ms i (pos 0) ≡ pos 0 → Made bs₀ left₀ cost ms (i + 1) bs left
  passed bs left m z =
      let within : i < length ms = omega arith in
      let count : postings (take (i + 1) ms) ≡ postings (take i ms) = postings_more ms i within ∙ ap (λ a. postings (take i ms) + cond (eqb (nat_abs a) 0) 0 1) z ∙ omega arith in
      let plus : get_or bs₀ i (pos 0) +ℤ get_or ms i (pos 0) ≡ get_or bs₀ i (pos 0) = ap (λ a. get_or bs₀ i (pos 0) +ℤ a) z ∙ omega (arith, ints) in
      let same : added bs₀ (take (i + 1) ms) ≡ added bs₀ (take i ms) = ap (λ k. added bs₀ (take k ms)) (add-one i) ∙ added_more bs₀ ms i within ∙ ap (set (added bs₀ (take i ms)) i) (plus ∙ sym (get_or_added_front bs₀ ms i)) ∙ set-get_or (added bs₀ (take i ms)) i (pos 0) in
      record { added_so_far = m.added_so_far ∙ sym same; taken_so_far = ap (λ k. left + cost * k) count ∙ m.taken_so_far }

  module _ (long₀ : length bs₀ ≡ 64) (none : lowest_out 1 bs₀ ms ≡ None) (paid : cost * postings ms ≤ left₀) (bs : List ℤ) (left : ℕ) (m : Made bs₀ left₀ cost ms i bs left) (due : eqb (nat_abs (get_or ms i (pos 0))) 0 ≡ false) where
    at : get_or bs i (pos 0) ≡ get_or bs₀ i (pos 0)
    at = ap (λ l. get_or l i (pos 0)) m.added_so_far ∙ get_or_added_front bs₀ ms i

    lines_more : cost * postings (take (i + 1) ms) ≡ cost * postings (take i ms) + cost
    lines_more =
        let p = postings (take i ms) in
        let count : postings (take (i + 1) ms) ≡ p + 1 = postings_more ms i (omega arith) ∙ ap (λ b. p + cond b 0 1) due in
        ap (λ k. cost * k) count ∙ mul-add cost p 1 ∙ ap (λ k. cost * p + k) (mul-one cost)

    enough : cost ≤ left
    enough =
        let more = lines_more in
        let taken = m.taken_so_far in
        let most : cost * postings (take (i + 1) ms) ≤ cost * postings ms = mul-le-mul_left cost (sum_by-take-le (λ a. cond (not (eqb (nat_abs a) 0)) 1 0) ms (i + 1)) in
        omega arith

    -- a posting that was tested is never refused
    pub accepted : post_answer bs left cost (i + 1) (get_or ms i (pos 0)) ≡ Ok tt
    accepted =
        let good : in_bounds (of_account bs (i + 1) +ℤ get_or ms i (pos 0)) ≡ true = ap (λ z. in_bounds (z +ℤ get_or ms i (pos 0))) (of_account_at bs i h ∙ at) ∙ none_inside 1 bs₀ ms i none (omega arith) (omega arith) in
        cond-true _ _ _ (and_from _ _ (account_at i h) good) ∙ cond-false _ _ _ (le-ltb left cost enough)

    -- a turn with a posting
    pub posted : (bs' : List ℤ) (left' : ℕ) → bs' ≡ posted_to bs (i + 1) (get_or ms i (pos 0)) → left' ≡ left - cost → Made bs₀ left₀ cost ms (i + 1) bs' left'
    posted bs' left' eb el =
        let a = get_or ms i (pos 0) in
        let back : i + 1 - 1 ≡ i = omega arith in
        let more = lines_more in
        let can = enough in
        let taken = m.taken_so_far in
        record {
          added_so_far = eb ∙ ap (λ k. set bs k (get_or bs k (pos 0) +ℤ a)) back ∙ ap (λ z. set bs i (z +ℤ a)) at ∙ ap (λ l. set l i (get_or bs₀ i (pos 0) +ℤ a)) m.added_so_far ∙ sym (added_more bs₀ ms i (omega arith)) ∙ ap (λ k. added bs₀ (take k ms)) (sym (add-one i));
          taken_so_far = omega arith;
        }
