-- A field that is written is read, and one that is read is as written.
use Rattle.std.proofs.Common.{◌≡◌, ℕ, zero, suc, ◌^◌, ◌<◌, ◌≤◌, Bool, true, false, cond, eqb, leb, List, [], ◌∷◌, ◌++◌, length, take, drop, replicate, is_some, Some, None, Ok, Err, Option, Result, sym, refl, ap, ◌∙◌, subst, ⊎_elim, arith}
use native.Mathlib.Nat.{pow-le-pow_right}
use Rattle.std.proofs.lemmas.List.{length-append, length-replicate, length-take-le, take_at, drop_at, take-append-drop}
use Rattle.std.proofs.lemmas.Bool.{le-leb, leb-true, lt-ltb, ltb-true, eqb-true, and_parts, cases_Bool}
use Rattle.std.specs.Option.{ok_or}
use Rattle.terms.specs.declared.fault.Fault.{Fault}
use Rattle.terms.specs.declared.fault.Fault.TheVariants.{Field}
use Rattle.sheet.specs.Numbers.{number_of}
use Rattle.sheet.specs.Rows.{entry_of, entry_fits}
use Rattle.sheet.specs.Kinds.{number_in}
use Rattle.sheet.specs.Lines.{blank, entry_said, field_of, then}
use Rattle.sheet.proofs.Columns.{length_column, column_read, read_shows, some_power}

-- what may stand in a field: a number that fits it where it is used, and nothing where it is not
pub record Entered (used : Bool) (width : ℕ) (entry : Option ℕ) : Type 0 where
  pub fit : entry_fits width entry ≡ true
  pub only : is_some entry ≡ used

pub number_fits : (width : ℕ) (entry : Option ℕ) → entry_fits width entry ≡ true → number_in entry < 10 ^ width
number_fits width entry h = grind (arith, ltb-true, some_power)

pub length_entry : (width : ℕ) (entry : Option ℕ) → length (entry_of width entry) ≡ width
length_entry width entry = grind (arith, length-replicate, length_column)

pub then_ok : {X Y : Type 0} (r : Result X Fault) (f : X → Result Y Fault) (y : Y) → then r f ≡ Ok y → (x : X) × (r ≡ Ok x) × (f x ≡ Ok y)
then_ok r f y h = grind arith

pub some_ok : {X : Type 0} (o : Option X) (e : Fault) (x : X) → ok_or o e ≡ Ok x → o ≡ Some x
some_ok o e x h = grind arith

blank_spaces : (k : ℕ) → blank (replicate k 32) ≡ true
blank_spaces zero = refl
blank_spaces (suc k) = blank_spaces k

spaces_blank : (xs : List ℕ) → blank xs ≡ true → xs ≡ replicate (length xs) 32
spaces_blank [] e = refl
spaces_blank (b ∷ bs) e =
    let parts = and_parts (eqb b 32) (blank bs) e in
    (λ i. eqb-true b 32 parts.0 i ∷ spaces_blank bs parts.1 i)

entry_read : (place : ℕ) (used : Bool) (k : ℕ) (entry : Option ℕ) → suc k ≤ 18 → Entered used (suc k) entry → entry_said place used (entry_of (suc k) entry) ≡ Ok entry
entry_read place used k entry h1 h2 = grind (arith, blank_spaces, column_read, ltb-true, pow-le-pow_right)

field_read : (place : ℕ) (used : Bool) (k : ℕ) (entry : Option ℕ) (rest : List ℕ) → suc k ≤ 18 → Entered used (suc k) entry → field_of place (suc k) used (entry_of (suc k) entry ++ rest) ≡ Ok (entry, rest)
field_read place used k entry rest narrow e =
    let w = suc k in
    let field = entry_of w entry in
    let xs = field ++ rest in
    let long = length_entry w entry in
    let some : leb w (length xs) ≡ true = le-leb w (length xs) (omega (arith, length-append field rest)) in
    ap (λ t. cond t (then (entry_said place used (take w xs)) (λ o. Ok (o, drop w xs))) (Err (Field place))) some
    ∙ (λ i. then (entry_said place used (take_at field rest w long i)) (λ o. Ok (o, drop_at field rest w long i)))
    ∙ ap (λ r. then r (λ o. Ok (o, rest))) (entry_read place used k entry narrow e)

-- what a field that was read leaves
pub record Taken (used : Bool) (width : ℕ) (xs : List ℕ) (entry : Option ℕ) (rest : List ℕ) : Type 0 where
  pub written : xs ≡ entry_of width entry ++ rest
  pub entered : Entered used width entry

entry_written : (place : ℕ) (used : Bool) (xs : List ℕ) (entry : Option ℕ) → entry_said place used xs ≡ Ok entry → (xs ≡ entry_of (length xs) entry) × Entered used (length xs) entry
entry_written place true xs entry e =
    let r = then_ok (ok_or (number_of xs) (Field place)) (λ n. Ok (Some n)) entry e in
    let n = r.0 in
    let is : Some n ≡ entry = let h : ◌≡◌ {A = Result (Option ℕ) Fault} (Ok (Some n)) (Ok entry) = r.2 in cc in
    let s = read_shows xs n (some_ok (number_of xs) (Field place) n r.1) in
    subst (λ o. (xs ≡ entry_of (length xs) o) × Entered true (length xs) o) is
    (s.written, record { fit = lt-ltb n (10 ^ length xs) s.fit; only = refl })
entry_written place false xs entry e =
    ⊎_elim
    (λ b.
    let is : None ≡ entry = let h : ◌≡◌ {A = Result (Option ℕ) Fault} (Ok None) (Ok entry) = sym (ap (λ t. cond t (Ok None) (Err (Field place))) b) ∙ e in cc in
    subst (λ o. (xs ≡ entry_of (length xs) o) × Entered false (length xs) o) is (spaces_blank xs b, record { fit = refl; only = refl }))
    (λ b. let h : ◌≡◌ {A = Result (Option ℕ) Fault} (Err (Field place)) (Ok entry) = sym (ap (λ t. cond t (Ok None) (Err (Field place))) b) ∙ e in cc)
    (cases_Bool (blank xs))

pub field_written : (place width : ℕ) (used : Bool) (xs : List ℕ) (entry : Option ℕ) (rest : List ℕ) → field_of place width used xs ≡ Ok (entry, rest) → Taken used width xs entry rest
field_written place width used xs entry rest e =
    let field = take width xs in
    let said : Result (Option ℕ × List ℕ) Fault = then (entry_said place used field) (λ o. Ok (o, drop width xs)) in
    let next : Bool → Result (Option ℕ × List ℕ) Fault = λ t. cond t said (Err (Field place)) in
    ⊎_elim
    (λ long.
    let wide : length field ≡ width = length-take-le width xs (leb-true width (length xs) long) in
    let r = then_ok (entry_said place used field) (λ o. Ok (o, drop width xs)) (entry, rest) (sym (ap next long) ∙ e) in
    let h : ◌≡◌ {A = Result (Option ℕ × List ℕ) Fault} (Ok (r.0, drop width xs)) (Ok (entry, rest)) = r.2 in
    let same : ◌≡◌ {A = Option ℕ × List ℕ} (r.0, drop width xs) (entry, rest) = cc in
    let v = entry_written place used field entry (r.1 ∙ ap (λ x. Ok x.0) same) in
    record {
      written = sym (take-append-drop width xs) ∙ (λ i. (v.0 ∙ ap (λ w. entry_of w entry) wide) i ++ (same i).1);
      entered = subst (λ w. Entered used w entry) wide v.1;
    })
    (λ short. let h : ◌≡◌ {A = Result (Option ℕ × List ℕ) Fault} (Err (Field place)) (Ok (entry, rest)) = sym (ap next short) ∙ e in cc)
    (cases_Bool (leb width (length xs)))

-- one field of a line, and then what follows
pub then_read : {Y : Type 0} (place : ℕ) (used : Bool) (k : ℕ) (entry : Option ℕ) (rest : List ℕ) (f : Option ℕ × List ℕ → Result Y Fault) (y : Result Y Fault) → suc k ≤ 18 → Entered used (suc k) entry → f (entry, rest) ≡ y → then (field_of place (suc k) used (entry_of (suc k) entry ++ rest)) f ≡ y
then_read place used k entry rest f y h1 h2 h3 = grind (arith, field_read)
