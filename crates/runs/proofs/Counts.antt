-- Customers counted.
use Rattle.std.proofs.Common.{◌≡◌, ℕ, zero, suc, ◌+◌, ◌<◌, ◌≤◌, Bool, true, false, cond, not, ◌&&◌, ◌||◌, List, [], ◌∷◌, count_by, refl, ap, arith}
use Rattle.std.specs.List.{range_with_len, AllByRecursion}
use Rattle.std.proofs.lemmas.List.Sums.{sum_by-cons}
use Rattle.std.proofs.lemmas.Bool.{le-leb}
use Rattle.steps.specs.State.{customers, is_customer}
use Rattle.runs.proofs.Flags.{sizes}

abbrev one : Bool → ℕ
one b = cond b 1 0

-- of those that pass p, some pass q and the others r
pub counted_apart : (p q r : ℕ → Bool) (xs : List ℕ) → AllByRecursion (λ n. one (p n) ≡ one (q n) + one (r n)) xs → count_by p xs ≡ count_by q xs + count_by r xs
counted_apart p q r [] a = refl
counted_apart p q r (x ∷ xs) a =
    omega (arith, a.0, counted_apart p q r xs a.1, sum_by-cons (λ n. one (p n)) x xs, sum_by-cons (λ n. one (q n)) x xs, sum_by-cons (λ n. one (r n)) x xs)

pub counted_none : (p : ℕ → Bool) (xs : List ℕ) → AllByRecursion (λ n. p n ≡ false) xs → count_by p xs ≡ 0
counted_none p [] a = refl
counted_none p (x ∷ xs) a = omega (arith, ap one a.0, counted_none p xs a.1, sum_by-cons (λ n. one (p n)) x xs)

-- what holds of every customer holds along their numbers
pub along : (P : ℕ → Type 0) (a n : ℕ) → ((k : ℕ) → a ≤ k → k < a + n → P k) → AllByRecursion P (range_with_len a n)
along P a zero f = tt
along P a (suc n) f = (f a (omega arith) (omega arith), along P (a + 1) n (λ k low high. f k (omega arith) (omega arith)))

pub all_customers : (P : ℕ → Type 0) → ((n : ℕ) → is_customer n ≡ true → P n) → AllByRecursion P (range_with_len 1 customers)
all_customers P f =
    along P 1 customers (λ n low high. f n ((λ i. le-leb 1 n low i && le-leb n 56 (omega (arith, sizes)) i)))

-- the two ways in which a flag is told apart
pub or_apart : (b c : Bool) → one (b || (not b && c)) ≡ one b + one (not b && c)
or_apart true c = refl
or_apart false c = omega arith

pub and_apart : (b c : Bool) → one b ≡ one (b && c) + one (b && not c)
and_apart true true = refl
and_apart true false = refl
and_apart false c = refl
