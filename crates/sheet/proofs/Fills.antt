-- A column that is filled from its end.
use native.Mathlib.Nat.{div-eq_of_lt, pow-le-pow_right}
use Rattle.std.proofs.Common.{◌≡◌, ℕ, zero, suc, ◌+◌, ◌-◌, ◌/◌, ◌^◌, ◌<◌, ◌≤◌, true, eqb, List, ◌∷◌, ◌++◌, length, take, drop, set, replicate, sym, refl, ap, ◌∙◌, div-one, arith}
use Rattle.std.proofs.lemmas.List.{drop_all, drop-set, take-append-drop, take-take, take-replicate, drop-replicate, length-replicate}
use Rattle.std.proofs.lemmas.Bool.{lt-ltb}
use Rattle.sheet.specs.Numbers.{glyph, column_of, fits}
use Rattle.sheet.proofs.Columns.{tenth, column_none, column_more, quotient_none}

-- the places from `at` on are written, and `left` is what is left of the number
pub record Filled (n width at : ℕ) (xs : List ℕ) (left : ℕ) : Type 0 where
  pub tail : drop at xs ≡ column_of (width - at) n
  pub rest : left ≡ n / 10 ^ (width - at)

pub filled_none : (n : ℕ) (xs : List ℕ) → Filled n (length xs) (length xs) xs n
filled_none n xs =
    let none : length xs - length xs ≡ 0 = omega arith in
    record {
      tail = drop_all (length xs) xs (omega arith) ∙ sym (ap (λ k. column_of k n) none ∙ column_none n);
      rest = sym (ap (λ k. n / 10 ^ k) none ∙ div-one n);
    }

same_end : (at width : ℕ) → at ≤ width → eqb at width ≡ eqb (width - at) 0
same_end at width h = grind arith

pub filled_more : (n width at : ℕ) (xs : List ℕ) (left g : ℕ) → 0 < at → at ≤ width → length xs ≡ width → Filled n width at xs left → g ≡ glyph (eqb (at - 1 + 1) width) left → Filled n width (at - 1) (set xs (at - 1) g) (left / 10)
filled_more n width at xs left g some within long so_far e =
    let k = width - at in
    let more : width - (at - 1) ≡ suc k = omega arith in
    let here : at - 1 + 1 ≡ at = omega arith in
    record {
      tail = drop-set xs (at - 1) g (omega arith)
          ∙ ap (λ i. g ∷ drop i xs) here
          ∙ ap (λ l. g ∷ l) so_far.tail
          ∙ ap (λ b. b ∷ column_of k n) (e ∙ ap (λ i. glyph (eqb i width) left) here ∙ ap (λ t. glyph t left) (same_end at width within) ∙ ap (glyph (eqb k 0)) so_far.rest)
          ∙ sym (ap (λ m. column_of m n) more ∙ column_more k n);
      rest = ap (λ q. q / 10) so_far.rest ∙ tenth n k ∙ sym (ap (λ m. n / 10 ^ m) more);
    }

-- where nothing is left, the places before show nothing
none_before : (j k n : ℕ) → n / 10 ^ k ≡ 0 → n / 10 ^ (j + k) ≡ 0
none_before j k n e = div-eq_of_lt (let a = quotient_none k n e in let b : 10 ^ k ≤ 10 ^ (j + k) = pow-le-pow_right (omega arith) (omega arith) in omega arith)

blank_glyph : (k q : ℕ) → 0 < k → q ≡ 0 → 32 ≡ glyph (eqb k 0) q
blank_glyph k q some e = grind arith

spaces_before : (j k n : ℕ) → 0 < k → n / 10 ^ k ≡ 0 → replicate j 32 ++ column_of k n ≡ column_of (j + k) n
spaces_before zero k n some e = ap (λ w. column_of w n) (let w : k ≡ 0 + k = omega arith in w)
spaces_before (suc j) k n some e =
    (λ i. blank_glyph (j + k) (n / 10 ^ (j + k)) (omega arith) (none_before j k n e) i ∷ spaces_before j k n some e i)
    ∙ sym (column_more (j + k) n)
    ∙ ap (λ w. column_of w n) (let w : suc (j + k) ≡ suc j + k = omega arith in w)

-- a column of spaces whose last places were written, and nothing is left
pub spaces_filled : (n width at : ℕ) (xs : List ℕ) (left : ℕ) → at < width → Filled n width at xs left → left ≡ 0 → take at xs ≡ replicate at 32 → xs ≡ column_of width n
spaces_filled n width at xs left some filled none front =
    let k = width - at in
    let whole : at + k ≡ width = omega arith in
    sym (take-append-drop at xs) ∙ (λ i. front i ++ filled.tail i)
    ∙ spaces_before at k n (omega arith) (sym filled.rest ∙ none)
    ∙ ap (λ w. column_of w n) whole

-- one space less
pub fewer_spaces : (at : ℕ) (xs : List ℕ) → take at xs ≡ replicate at 32 → take (at - 1) xs ≡ replicate (at - 1) 32
fewer_spaces at xs e =
    let less : at - 1 ≤ at = omega arith in
    sym (take-take (at - 1) at xs less) ∙ ap (take (at - 1)) e ∙ take-replicate (at - 1) at 32 less

-- nothing is left exactly if the number fits
pub left_none : (n width left : ℕ) → left ≡ n / 10 ^ width → left ≡ 0 → true ≡ fits width n
left_none n width left h1 h2 = grind (arith, lt-ltb, quotient_none)

-- and it fits where nothing is left early
pub left_early : (n width at left : ℕ) → left ≡ n / 10 ^ (width - at) → left ≡ 0 → true ≡ fits width n
left_early n width at left h1 h2 =
    let k = width - at in
    let none = none_before (width - k) k n (sym h1 ∙ h2) in
    let whole : width - k + k ≡ width = omega arith in
    left_none n width 0 (sym none ∙ ap (λ w. n / 10 ^ w) whole) refl

-- a column of spaces, cut off a row of them, and what is left of that
pub spaces_front : (w : ℕ) (xs ys : List ℕ) → xs ≡ replicate (length xs) 32 → ys ≡ take w xs → w ≤ length xs → ys ≡ replicate (length ys) 32
spaces_front w xs ys spaces cut within =
    let e : ys ≡ replicate w 32 = cut ∙ ap (take w) spaces ∙ take-replicate w (length xs) 32 within in
    e ∙ ap (λ k. replicate k 32) (sym (ap length e ∙ length-replicate w 32))

pub spaces_back : (w : ℕ) (xs ys : List ℕ) → xs ≡ replicate (length xs) 32 → ys ≡ drop w xs → ys ≡ replicate (length ys) 32
spaces_back w xs ys spaces cut =
    let e : ys ≡ replicate (length xs - w) 32 = cut ∙ ap (drop w) spaces ∙ drop-replicate w (length xs) 32 in
    e ∙ ap (λ k. replicate k 32) (sym (ap length e ∙ length-replicate (length xs - w) 32))
