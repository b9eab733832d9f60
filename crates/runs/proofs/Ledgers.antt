-- Sums over customers.
use Rattle.std.proofs.Common.{◌≡◌, ℕ, zero, suc, ◌+◌, ◌<◌, ◌≤◌, Bool, true, false, cond, eqb, leb, List, [], ◌∷◌, ℤ, pos, negsuc, ◌+ℤ◌, ◌-ℤ◌, sum_by, refl, ap, ◌∙◌, inl, inr, arith}
use Rattle.std.specs.List.{range_with_len, AllByRecursion}
use Rattle.std.proofs.lemmas.Int.{ints}
use Rattle.std.proofs.lemmas.List.Sums.{sum_by-cons}
use Rattle.std.proofs.lemmas.Bool.{cases_eq, eq-eqb, ne_eqb, and_parts, leb-true}
use Rattle.book.proofs.Added.{linear}
use Rattle.steps.specs.State.{customers, is_customer}
use Rattle.steps.specs.Deals.{Deal}
use Rattle.runs.specs.Trading.{mine, side, net, long_part, short_part}
use Rattle.runs.proofs.Flags.{sizes}

abbrev pub over : (ℕ → ℤ) → List ℕ → ℤ
over f [] = pos 0
over f (n ∷ ns) = f n +ℤ over f ns

pub over_same : (f g : ℕ → ℤ) (ns : List ℕ) → AllByRecursion (λ n. f n ≡ g n) ns → over f ns ≡ over g ns
over_same f g [] a = refl
over_same f g (n ∷ ns) a = λ i. a.0 i +ℤ over_same f g ns a.1 i

pub over_plus : (f g : ℕ → ℤ) (ns : List ℕ) → over (λ n. f n +ℤ g n) ns ≡ over f ns +ℤ over g ns
over_plus f g [] = refl
over_plus f g (n ∷ ns) = omega (arith, linear, over_plus f g ns)

pub over_minus : (f g : ℕ → ℤ) (ns : List ℕ) → over (λ n. f n -ℤ g n) ns ≡ over f ns -ℤ over g ns
over_minus f g [] = refl
over_minus f g (n ∷ ns) = omega (arith, linear, over_minus f g ns)

pub over_none : (ns : List ℕ) → over (λ n. pos 0) ns ≡ pos 0
over_none [] = refl
over_none (n ∷ ns) = omega (arith, linear, over_none ns)

-- an amount of one account, over a row of accounts
one_out : (b : ℕ) (z : ℤ) (a m : ℕ) → (b < a → ⊥) → a + m ≤ b → over (λ n. mine n b z) (range_with_len a m) ≡ pos 0
one_out b z a zero low high = refl
one_out b z a (suc m) low high =
    omega (arith, linear, ap (λ t. cond t z (pos 0)) (ne_eqb a b (omega arith)), one_out b z (a + 1) m (omega arith) (omega arith))

one_past : (b : ℕ) (z : ℤ) (a m : ℕ) → b < a → over (λ n. mine n b z) (range_with_len a m) ≡ pos 0
one_past b z a zero low = refl
one_past b z a (suc m) low =
    omega (arith, linear, ap (λ t. cond t z (pos 0)) (ne_eqb a b (omega arith)), one_past b z (a + 1) m (omega arith))

pub one_in : (b : ℕ) (z : ℤ) (a m : ℕ) → a ≤ b → b < a + m → over (λ n. mine n b z) (range_with_len a m) ≡ z
one_in b z a zero low high = absurd (omega arith)
one_in b z a (suc m) low high =
    elim (cases_eq a b) [
      | inl e ↦ omega (arith, linear, ap (λ t. cond t z (pos 0)) (eq-eqb a b e), one_past b z (a + 1) m (omega arith))
      | inr d ↦ omega (arith, linear, ap (λ t. cond t z (pos 0)) (ne_eqb a b d), one_in b z (a + 1) m (omega (arith, d)) (omega arith))
    ]

pub one_customer : (b : ℕ) (z : ℤ) → is_customer b ≡ true → over (λ n. mine n b z) (range_with_len 1 customers) ≡ z
one_customer b z is =
    let parts = and_parts (leb 1 b) (leb b 56) is in
    one_in b z 1 customers (leb-true 1 b parts.0) (omega (arith, sizes, leb-true b 56 parts.1))

-- contracts bought are contracts sold
side_level : (d : Deal) → is_customer d.buyer ≡ true → is_customer d.seller ≡ true → over (λ n. side n d) (range_with_len 1 customers) ≡ pos 0
side_level d buyer seller =
    omega (arith, linear, over_minus (λ n. mine n d.buyer (pos d.count)) (λ n. mine n d.seller (pos d.count)) (range_with_len 1 customers), one_customer d.buyer (pos d.count) buyer, one_customer d.seller (pos d.count) seller)

abbrev pub Parties : List Deal → Type 0
Parties ds = AllByRecursion (λ d. (is_customer d.buyer ≡ true) × (is_customer d.seller ≡ true)) ds

pub net_level : (i : ℕ) (ds : List Deal) → Parties ds → over (λ n. net n i ds) (range_with_len 1 customers) ≡ pos 0
net_level i [] p = over_none (range_with_len 1 customers)
net_level i (d ∷ ds) p =
    over_plus (λ n. cond (eqb i d.series) (side n d) (pos 0)) (λ n. net n i ds) (range_with_len 1 customers)
    ∙ (λ k. by (eqb i d.series) k +ℤ net_level i ds p.1 k)
  where
    by : (t : Bool) → over (λ n. cond t (side n d) (pos 0)) (range_with_len 1 customers) ≡ pos 0
    by true = side_level d p.0.0 p.0.1
    by false = over_none (range_with_len 1 customers)

-- a sum that is 0 has as much long as short
parts_of : (z : ℤ) → z ≡ pos (long_part z) -ℤ pos (short_part z)
parts_of (pos n) = omega (arith, ints)
parts_of (negsuc n) = omega (arith, ints)

over_parts : (f : ℕ → ℤ) (ns : List ℕ) → over f ns ≡ pos (sum_by (λ n. long_part (f n)) ns) -ℤ pos (sum_by (λ n. short_part (f n)) ns)
over_parts f [] = refl
over_parts f (n ∷ ns) =
    let here = parts_of (f n) in
    let rest = over_parts f ns in
    let long = ap pos (sum_by-cons (λ n. long_part (f n)) n ns) in
    let short = ap pos (sum_by-cons (λ n. short_part (f n)) n ns) in
    omega (arith, ints)

pub level_from : (f : ℕ → ℤ) (ns : List ℕ) → over f ns ≡ pos 0 → sum_by (λ n. long_part (f n)) ns ≡ sum_by (λ n. short_part (f n)) ns
level_from f ns none = let parts = over_parts f ns in omega (arith, ints)
