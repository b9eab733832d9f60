-- Balances and amounts added.
use Rattle.std.proofs.Common.{◌≡◌, ℕ, zero, suc, ◌<◌, ◌≤◌, List, [], ◌∷◌, length, get_or, take, set, ℤ, pos, ◌+ℤ◌, refl, ap, arith}
use borrow.Author.Differences.{same_out, same_in, sum_is_lem, neg_is}
use Rattle.book.specs.Balances.{of_account, total}
use Rattle.book.specs.Postings.{added}
use Rattle.book.proofs.Accounts.{of_account_at, of_no_account, by_account}

-- what `omega` needs for sums of signed numbers
pub ruleset linear = (same_out, same_in, sum_is_lem, neg_is)

pub added_none : (bs : List ℤ) → added bs [] ≡ bs
added_none [] = refl
added_none (b ∷ bs) = refl

pub length_added : (bs ms : List ℤ) → length (added bs ms) ≡ length bs
length_added [] ms = refl
length_added (b ∷ bs) [] = refl
length_added (b ∷ bs) (a ∷ ms) = ap suc (length_added bs ms)

pub get_or_added : (bs ms : List ℤ) (k : ℕ) → k < length bs → get_or (added bs ms) k (pos 0) ≡ get_or bs k (pos 0) +ℤ get_or ms k (pos 0)
get_or_added [] ms k h = absurd (omega arith)
get_or_added (b ∷ bs) [] k h = omega (arith, linear)
get_or_added (b ∷ bs) (a ∷ ms) zero h = refl
get_or_added (b ∷ bs) (a ∷ ms) (suc k) h = get_or_added bs ms k (omega arith)

-- each account gains its amount
pub of_account_added : (bs ms : List ℤ) → length bs ≡ 64 → (n : ℕ) → of_account (added bs ms) n ≡ of_account bs n +ℤ of_account ms n
of_account_added bs ms long =
    by_account (λ n. of_account (added bs ms) n ≡ of_account bs n +ℤ of_account ms n)
    (λ i h. rw (of_account_at (added bs ms) i h, of_account_at bs i h, of_account_at ms i h) (get_or_added bs ms i (omega arith)))
    (λ n h. rw (of_no_account (added bs ms) n h, of_no_account bs n h, of_no_account ms n h) refl)

-- all accounts together gain all amounts together
pub total_added : (bs ms : List ℤ) → length ms ≤ length bs → total (added bs ms) ≡ total bs +ℤ total ms
total_added [] [] h = refl
total_added [] (a ∷ ms) h = absurd (omega arith)
total_added (b ∷ bs) [] h = omega (arith, linear)
total_added (b ∷ bs) (a ∷ ms) h = omega (arith, linear, total_added bs ms (omega arith))

-- ---- a front of the amounts

pub get_or_added_front : (bs ms : List ℤ) (i : ℕ) → get_or (added bs (take i ms)) i (pos 0) ≡ get_or bs i (pos 0)
get_or_added_front [] ms i = refl
get_or_added_front (b ∷ bs) [] zero = refl
get_or_added_front (b ∷ bs) [] (suc i) = refl
get_or_added_front (b ∷ bs) (a ∷ ms) zero = refl
get_or_added_front (b ∷ bs) (a ∷ ms) (suc i) = get_or_added_front bs ms i

pub added_more : (bs ms : List ℤ) (i : ℕ) → i < length ms → added bs (take (suc i) ms) ≡ set (added bs (take i ms)) i (get_or bs i (pos 0) +ℤ get_or ms i (pos 0))
added_more [] ms i h = refl
added_more (b ∷ bs) [] i h = absurd (omega arith)
added_more (b ∷ bs) (a ∷ ms) zero h = ap (λ r. (b +ℤ a) ∷ r) (added_none bs)
added_more (b ∷ bs) (a ∷ ms) (suc i) h = ap (λ r. (b +ℤ a) ∷ r) (added_more bs ms i (omega arith))
