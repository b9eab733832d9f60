-- What is written in a column is read there, and what is read is what would be written.
use Rattle.std.proofs.Common.{◌≡◌, ℕ, zero, suc, ◌+◌, ◌-◌, ◌*◌, ◌/◌, ◌%◌, ◌^◌, ◌<◌, ◌≤◌, Bool, cond, ◌&&◌, eqb, leb, List, [], ◌∷◌, length, Some, None, Option, sym, refl, ap, ◌∙◌, ⊎_elim, pow-suc, mul-one, div-one, arith}
use native.Mathlib.Nat.{one-le-pow, div-div-eq-div-mul, div-eq_of_lt, lt-mul-div-succ, pow-le-pow_right}
use Rattle.std.proofs.lemmas.Bool.{ne_eqb, cases_eq, cases_lt, eqb-true, eqb-false, leb-true, and_parts, cases_Bool}
use Rattle.sheet.specs.Numbers.{glyph, column_of, digits_of, word_of, nought_of, number_of, Shows, Reads}
use Rattle.sheet.proofs.Digits.{is_digit, word_is, below_18}

-- the place before drops one digit more
pub tenth : (n k : ℕ) → n / 10 ^ k / 10 ≡ n / 10 ^ suc k
tenth n k = grind (arith, div-div-eq-div-mul, pow-suc)

pub some_power : (k : ℕ) → 0 < 10 ^ k
some_power k = one-le-pow k 10 (omega arith)

pub quotient_none : (k n : ℕ) → n / 10 ^ k ≡ 0 → n < 10 ^ k
quotient_none k n h = grind (arith, lt-mul-div-succ, mul-one, some_power)

pub quotient_some : (k n : ℕ) → (n / 10 ^ k ≡ 0 → ⊥) → 10 ^ k ≤ n
quotient_some k n h = grind arith

pub column_none : (n : ℕ) → column_of 0 n ≡ []
unfolding column_of
column_none n = refl

pub column_more : (k n : ℕ) → column_of (suc k) n ≡ glyph (eqb k 0) (n / 10 ^ k) ∷ column_of k n
unfolding column_of
column_more k n = refl

pub length_column : (k n : ℕ) → length (column_of k n) ≡ k
length_column zero n = ap length (column_none n)
length_column (suc k) n = ap length (column_more k n) ∙ ap suc (length_column k n)

-- a place with something left shows its digit
pub glyph_digit : (last : Bool) (q : ℕ) → 0 < q → glyph last q ≡ 48 + q % 10
glyph_digit last q h = grind arith

-- digits after a first that is not 0: written and read
pub digits_read : (k n a : ℕ) → 0 < a → n / 10 ^ k ≡ a → digits_of a (column_of k n) ≡ Some n
digits_read zero n a some e = ap (digits_of a) (column_none n) ∙ ap Some (sym e ∙ div-one n)
digits_read (suc k) n a some e =
    let q = n / 10 ^ k in
    let tens : q / 10 ≡ a = tenth n k ∙ e in
    let more : 0 < q = omega arith in
    let b = 48 + q % 10 in
    let value : a * 10 + (b - 48) ≡ q = omega arith in
    ap (digits_of a) (column_more k n) ∙ ap (λ g. digits_of a (g ∷ column_of k n)) (glyph_digit (eqb k 0) q more)
    ∙ ap (λ t. cond t (digits_of (a * 10 + (b - 48)) (column_of k n)) None) (is_digit b (omega arith) (omega arith))
    ∙ ap (λ m. digits_of m (column_of k n)) value ∙ digits_read k n q more refl

-- and read, so written
pub record Written (xs : List ℕ) (a n : ℕ) : Type 0 where
  pub shown : xs ≡ column_of (length xs) n
  pub before : n / 10 ^ length xs ≡ a

some_none : {n : ℕ} → None ≡ Some n → ⊥
some_none e = let z : ◌≡◌ {A = ℕ} 0 1 = cc in omega arith

digit_written : (b : ℕ) (bs : List ℕ) (n a : ℕ) → (48 ≤ b → 0 < a * 10 + (b - 48)) → digits_of a (b ∷ bs) ≡ Some n → (0 < a * 10 + (b - 48) → digits_of (a * 10 + (b - 48)) bs ≡ Some n → Written bs (a * 10 + (b - 48)) n) → Written (b ∷ bs) a n
digit_written b bs n a more e rest =
    let k = length bs in
    let q = n / 10 ^ k in
    let next : Bool → Option ℕ = λ t. cond t (digits_of (a * 10 + (b - 48)) bs) None in
    ⊎_elim
    (λ digit.
    let low = leb-true 48 b (and_parts (leb 48 b) (leb b 57) digit).0 in
    let high = leb-true b 57 (and_parts (leb 48 b) (leb b 57) digit).1 in
    let w = rest (more low) (sym (ap next digit) ∙ e) in
    let left = w.before in
    let some = more low in
    let here : b ≡ 48 + q % 10 = omega arith in
    record {
      shown = ap (λ l. b ∷ l) w.shown ∙ ap (λ g. g ∷ column_of k n) (here ∙ sym (glyph_digit (eqb k 0) q (omega arith))) ∙ sym (column_more k n);
      before = sym (tenth n k) ∙ (omega arith);
    })
    (λ other. absurd (some_none (sym (ap next other) ∙ e)))
    (cases_Bool (leb 48 b && leb b 57))

pub digits_written : (xs : List ℕ) (n a : ℕ) → 0 < a → digits_of a xs ≡ Some n → Written xs a n
digits_written [] n a some e = let same : a ≡ n = cc in record { shown = sym (column_none n); before = div-one n ∙ sym same }
digits_written (b ∷ bs) n a some e = digit_written b bs n a (λ low. omega arith) e (λ more r. digits_written bs n (a * 10 + (b - 48)) more r)

-- a whole column that is written is read
blank_read : (k n : ℕ) → n / 10 ^ suc k ≡ 0 → number_of (column_of (suc (suc k)) n) ≡ number_of (column_of (suc k) n)
blank_read k n h = grind (arith, column_more, ne_eqb)

first_read : (k n : ℕ) → 0 < n / 10 ^ k → n < 10 ^ suc k → n < 10 ^ 18 → number_of (column_of (suc k) n) ≡ Some n
first_read k n some within few =
    let q = n / 10 ^ k in
    let rest = column_of k n in
    let one : q / 10 ≡ 0 = tenth n k ∙ div-eq_of_lt within in
    let b = 48 + q % 10 in
    let narrow : k < 18 = ⊎_elim (λ h. h) (λ h. let p : 10 ^ 18 ≤ 10 ^ k = pow-le-pow_right (omega arith) h in let r = quotient_some k n (λ z. omega arith) in absurd (omega arith)) (cases_lt k 18) in
    let value : 0 * 10 + (b - 48) ≡ q = omega arith in
    ap number_of (column_more k n) ∙ ap (λ g. number_of (g ∷ rest)) (glyph_digit (eqb k 0) q some)
    ∙ ap (λ t. cond t (number_of rest) (cond (eqb b 48) (nought_of rest) (word_of (b ∷ rest)))) (ne_eqb b 32 (λ e. omega arith))
    ∙ ap (λ t. cond t (nought_of rest) (word_of (b ∷ rest))) (ne_eqb b 48 (λ e. omega arith))
    ∙ word_is (b ∷ rest) (let h = length_column k n in omega arith)
    ∙ ap (λ t. cond t (digits_of (0 * 10 + (b - 48)) rest) None) (is_digit b (omega arith) (omega arith))
    ∙ ap (λ m. digits_of m rest) value ∙ digits_read k n q some refl

nought_read : (n : ℕ) → n ≡ 0 → number_of (column_of 1 n) ≡ Some n
unfolding column_of
nought_read n h = grind arith

pub column_read : (k n : ℕ) → n < 10 ^ suc k → n < 10 ^ 18 → number_of (column_of (suc k) n) ≡ Some n
column_read zero n within few = ⊎_elim (λ e. nought_read n e) (λ e. first_read zero n (let h = div-one n in omega arith) within few) (cases_eq n 0)
column_read (suc k) n within few =
    ⊎_elim
    (λ e. blank_read k n e ∙ column_read k n (quotient_none (suc k) n e) few)
    (λ e. first_read (suc k) n (omega arith) within few)
    (cases_eq (n / 10 ^ suc k) 0)

pub shows_read : (xs : List ℕ) (n : ℕ) → Shows xs n → number_of xs ≡ Some n
shows_read [] n s = absurd (omega (arith, s.some))
shows_read (b ∷ bs) n s = ap number_of s.written ∙ column_read (length bs) n s.fit s.few

-- a whole column that is read is as written
blank_written : (b : ℕ) (bs : List ℕ) (n : ℕ) → b ≡ 32 → Shows bs n → Shows (b ∷ bs) n
blank_written b bs n h1 h2 = grind (arith, column_more, div-eq_of_lt, ne_eqb, pow-le-pow_right)

nought_written : (b : ℕ) (bs : List ℕ) (n : ℕ) → b ≡ 48 → nought_of bs ≡ Some n → Shows (b ∷ bs) n
unfolding column_of
nought_written b bs n h1 h2 = grind arith

word_written : (b : ℕ) (bs : List ℕ) (n : ℕ) → (b ≡ 48 → ⊥) → word_of (b ∷ bs) ≡ Some n → Shows (b ∷ bs) n
word_written b bs n other r =
    let xs = b ∷ bs in
    let short : Bool → Option ℕ = λ t. cond t (digits_of 0 xs) None in
    ⊎_elim
    (λ few.
    let narrow = leb-true (length xs) 18 few in
    let w = digit_written b bs n 0 (λ low. omega arith) (sym (ap short few) ∙ r) (λ more e. digits_written bs n _ more e) in
    let fit = quotient_none (length xs) n w.before in
    record { written = w.shown; some = omega arith; fit = fit; few = below_18 n (length xs) fit narrow })
    (λ many. absurd (some_none (sym (ap short many) ∙ r)))
    (cases_Bool (leb (length xs) 18))

pub read_shows : (xs : List ℕ) (n : ℕ) → number_of xs ≡ Some n → Shows xs n
read_shows [] n e = absurd (some_none e)
read_shows (b ∷ bs) n e =
    let rest = cond (eqb b 48) (nought_of bs) (word_of (b ∷ bs)) in
    ⊎_elim
    (λ space. blank_written b bs n (eqb-true b 32 space) (read_shows bs n (sym (ap (λ t. cond t (number_of bs) rest) space) ∙ e)))
    (λ other.
    let e' = sym (ap (λ t. cond t (number_of bs) rest) other) ∙ e in
    ⊎_elim
    (λ nought. nought_written b bs n (eqb-true b 48 nought) (sym (ap (λ t. cond t (nought_of bs) (word_of (b ∷ bs))) nought) ∙ e'))
    (λ digit. word_written b bs n (eqb-false b 48 digit) (sym (ap (λ t. cond t (nought_of bs) (word_of (b ∷ bs))) digit) ∙ e'))
    (cases_Bool (eqb b 48)))
    (cases_Bool (eqb b 32))

pub reads_number : (xs : List ℕ) (r : Option ℕ) → r ≡ number_of xs → Reads xs r
reads_number xs r e = record { sound = λ n s. read_shows xs n (sym e ∙ s); complete = λ n s. e ∙ shows_read xs n s }
