-- A line is read as a call exactly if it is the line that is written for that call.
use Rattle.std.proofs.Common.{◌≡◌, ℕ, ◌^◌, ◌<◌, Bool, true, cond, List, [], ◌∷◌, ◌++◌, is_some, IfOk, Some, None, Ok, Option, Result, sym, refl, ap, ◌∙◌, subst, arith, rules}
use Rattle.std.proofs.lemmas.Bool.{cond_both}
use Rattle.std.proofs.lemmas.Bool.Decides.{nat_tests}
use Rattle.std.specs.Option.{ok_or}
use Rattle.terms.specs.declared.fault.Fault.{Fault}
use Rattle.terms.specs.declared.fault.Fault.TheVariants.{Field, Code}
use Rattle.terms.specs.declared.call.Call.{Call}
use Rattle.sheet.specs.declared.kind.Kind.{Kind}
use Rattle.sheet.specs.declared.kind.Fields.{Fields}
use Rattle.sheet.specs.declared.number.TooNarrow.{TooNarrow}
use Rattle.sheet.specs.Numbers.{column_of, number_of}
use Rattle.sheet.specs.Rows.{entry_of, row_written}
use Rattle.sheet.specs.Kinds.{kind_of, code_of, uses_of, number_in, call_of, kind_in, numbers_in, row}
use Rattle.sheet.specs.Lines.{field_of, fields_of, then, ended, rest_of, line_of, fitting, kind_said, call_said, line_said, written_of, ReadsLine}
use Rattle.sheet.proofs.Columns.{column_read, read_shows}
use Rattle.sheet.proofs.Entries.{Entered, Taken, number_fits, field_written, then_read, then_ok, some_ok}

-- what may stand in the fields of a line
pub record AllEntered (u : Fields Bool) (n : Fields (Option ℕ)) : Type 0 where
  pub first : Entered u.first 5 n.first
  pub second : Entered u.second 5 n.second
  pub series : Entered u.series 3 n.series
  pub count : Entered u.count 5 n.count
  pub price : Entered u.price 11 n.price
  pub amount : Entered u.amount 18 n.amount

fields_read : (u : Fields Bool) (n : Fields (Option ℕ)) → AllEntered u n → fields_of u (rest_of n) ≡ Ok n
fields_read u n e =
    then_read 2 u.first 4 n.first _ _ _ (omega arith) e.first
    (then_read 3 u.second 4 n.second _ _ _ (omega arith) e.second
    (then_read 4 u.series 2 n.series _ _ _ (omega arith) e.series
    (then_read 5 u.count 4 n.count _ _ _ (omega arith) e.count
    (then_read 6 u.price 10 n.price _ _ _ (omega arith) e.price
    (then_read 7 u.amount 17 n.amount _ _ _ (omega arith) e.amount refl)))))

ended_ok : {X : Type 0} (xs : List ℕ) (x y : X) → then (ended xs) (λ _. Ok x) ≡ Ok y → (xs ≡ 10 ∷ []) × (x ≡ y)
ended_ok xs x y h = grind arith

-- fields that were read
pub record Entries (u : Fields Bool) (xs : List ℕ) (n : Fields (Option ℕ)) : Type 0 where
  pub written : xs ≡ rest_of n
  pub entered : AllEntered u n

-- one field was read: what is in it, the text after it, and what that is read as
record Step {Y : Type 0} (place width : ℕ) (used : Bool) (xs : List ℕ) (f : Option ℕ × List ℕ → Result Y Fault) (y : Y) : Type 0 where
  entry : Option ℕ
  rest : List ℕ
  taken : Taken used width xs entry rest
  follows : f (entry, rest) ≡ Ok y

step : {Y : Type 0} (place width : ℕ) (used : Bool) (xs : List ℕ) (f : Option ℕ × List ℕ → Result Y Fault) (y : Y) → then (field_of place width used xs) f ≡ Ok y → Step place width used xs f y
step place width used xs f y e =
    let s = then_ok (field_of place width used xs) f y e in
    record { entry = s.0.0; rest = s.0.1; taken = field_written place width used xs s.0.0 s.0.1 s.1; follows = s.2 }

fields_written : (u : Fields Bool) (xs : List ℕ) (n : Fields (Option ℕ)) → fields_of u xs ≡ Ok n → Entries u xs n
fields_written u xs n e =
    let a = step 2 5 u.first xs _ n e in
    let b = step 3 5 u.second a.rest _ n a.follows in
    let c = step 4 3 u.series b.rest _ n b.follows in
    let d = step 5 5 u.count c.rest _ n c.follows in
    let p = step 6 11 u.price d.rest _ n d.follows in
    let q = step 7 18 u.amount p.rest _ n p.follows in
    let m = row a.entry b.entry c.entry d.entry p.entry q.entry in
    let end = ended_ok q.rest m n q.follows in
    let whole : xs ≡ rest_of m =
    a.taken.written ∙ ap (λ l. entry_of 5 a.entry ++ l)
    (b.taken.written ∙ ap (λ l. entry_of 5 b.entry ++ l)
    (c.taken.written ∙ ap (λ l. entry_of 3 c.entry ++ l)
    (d.taken.written ∙ ap (λ l. entry_of 5 d.entry ++ l)
    (p.taken.written ∙ ap (λ l. entry_of 11 p.entry ++ l)
    (q.taken.written ∙ ap (λ l. entry_of 18 q.entry ++ l) end.0))))) in
    let all : AllEntered u m = record { first = a.taken.entered; second = b.taken.entered; series = c.taken.entered; count = d.taken.entered; price = p.taken.entered; amount = q.taken.entered } in
    subst (λ k. Entries u xs k) end.1 (record { written = whole; entered = all })

-- a call and its parts
call_parts : (c : Call) → call_of (kind_in c) (numbers_in c) ≡ c
call_parts c = grind arith

-- which fields have a number
abbrev present : Fields (Option ℕ) → Fields Bool
present n = row (is_some n.first) (is_some n.second) (is_some n.series) (is_some n.count) (is_some n.price) (is_some n.amount)

only_used : (c : Call) → present (numbers_in c) ≡ uses_of (kind_in c)
only_used c = search rules

-- a field where it is used
abbrev used_field : Bool → Option ℕ → Option ℕ
used_field used entry = cond used (Some (number_in entry)) None

abbrev used_fields : Fields Bool → Fields (Option ℕ) → Fields (Option ℕ)
used_fields u n =
    row (used_field u.first n.first) (used_field u.second n.second) (used_field u.series n.series)
    (used_field u.count n.count) (used_field u.price n.price) (used_field u.amount n.amount)

-- what a kind makes of its numbers
record Parts (k : Kind) (n : Fields (Option ℕ)) : Type 0 where
  kind : kind_in (call_of k n) ≡ k
  numbers : numbers_in (call_of k n) ≡ used_fields (uses_of k) n
  code : kind_of (code_of k) ≡ Some k
  short : code_of k < 10 ^ 2

parts : (k : Kind) (n : Fields (Option ℕ)) → Parts k n
parts k n = grind arith

code_kind : (n : ℕ) (k : Kind) → kind_of n ≡ Some k → n ≡ code_of k
code_kind n k e = grind (arith, nat_tests)

fitting_entered : (u : Fields Bool) (n : Fields (Option ℕ)) → present n ≡ u → fitting n ≡ true → AllEntered u n
fitting_entered u n h1 h2 = grind arith

-- by the code
code_read : (code : ℕ) (k : Kind) (rest : List ℕ) → number_of (column_of 2 code) ≡ Some code → kind_of code ≡ Some k → line_said (column_of 2 code ++ rest) ≡ call_said k rest
unfolding column_of
code_read code k rest h1 h2 = grind arith

pub line_read : (c : Call) → fitting (numbers_in c) ≡ true → line_said (line_of c) ≡ Ok c
line_read c fit =
    let k = kind_in c in
    let n = numbers_in c in
    let p = parts k n in
    code_read (code_of k) k (rest_of n) (column_read 1 (code_of k) p.short (omega (arith, p.short))) p.code
    ∙ ap (λ r. then r (λ m. Ok (call_of k m))) (fields_read (uses_of k) n (fitting_entered (uses_of k) n (only_used c) fit))
    ∙ ap Ok (call_parts c)

code_written : (tens units : ℕ) (k : Kind) → kind_said tens units ≡ Ok k → tens ∷ (units ∷ []) ≡ column_of 2 (code_of k)
code_written tens units k e =
    let s = then_ok (ok_or (number_of (tens ∷ (units ∷ []))) (Field 1)) _ k e in
    let shows = read_shows (tens ∷ (units ∷ [])) s.0 (some_ok _ (Field 1) s.0 s.1) in
    shows.written ∙ ap (column_of 2) (code_kind s.0 k (some_ok (kind_of s.0) Code k s.2))

-- a line that is read
pub record ReadAs (line : List ℕ) (c : Call) : Type 0 where
  pub written : line ≡ line_of c
  pub fit : fitting (numbers_in c) ≡ true

call_written : (tens units : ℕ) (rest : List ℕ) (k : Kind) (n : Fields (Option ℕ)) → tens ∷ (units ∷ []) ≡ column_of 2 (code_of k) → Entries (uses_of k) rest n → ReadAs (tens ∷ (units ∷ rest)) (call_of k n)
call_written tens units rest k n h1 h2 = grind arith

pub line_written : (line : List ℕ) (c : Call) → line_said line ≡ Ok c → ReadAs line c
line_written [] c e = cc
line_written (tens ∷ []) c e = cc
line_written (tens ∷ (units ∷ rest)) c e =
    let s = then_ok (kind_said tens units) _ c e in
    let k = s.0 in
    let f = then_ok (fields_of (uses_of k) rest) _ c s.2 in
    let n = f.0 in
    let h : ◌≡◌ {A = Result Call Fault} (Ok (call_of k n)) (Ok c) = f.2 in
    let is : call_of k n ≡ c = cc in
    subst (λ c. ReadAs (tens ∷ (units ∷ rest)) c) is (call_written tens units rest k n (code_written tens units k s.1) (fields_written (uses_of k) rest n f.1))

pub reads_line : (line : List ℕ) (r : Result Call Fault) → r ≡ line_said line → ReadsLine line r
reads_line line r e =
    record {
      written = λ c h. (line_written line c (sym e ∙ h)).written;
      fit = λ c h. (line_written line c (sym e ∙ h)).fit;
      read = λ c f w. e ∙ ap line_said w ∙ line_read c f;
    }

-- numbers that were read fit in 32 bits
pub small : (u : Fields Bool) (xs : List ℕ) (n : Fields (Option ℕ)) → fields_of u xs ≡ Ok n → (number_in n.first < 2 ^ 32) × ((number_in n.second < 2 ^ 32) × (number_in n.series < 2 ^ 32))
small u xs n e =
    let all = (fields_written u xs n e).entered in
    let first = number_fits 5 n.first all.first.fit in
    let second = number_fits 5 n.second all.second.fit in
    let series = number_fits 3 n.series all.series.fit in
    (omega (arith, first), (omega (arith, second), omega (arith, series)))

-- the columns of a line
abbrev pub line_columns : Kind → Fields (Option ℕ) → List (ℕ × Option ℕ)
line_columns k n =
    (2, Some (code_of k)) ∷ ((5, n.first) ∷ ((5, n.second) ∷ ((3, n.series) ∷ ((5, n.count) ∷ ((11, n.price) ∷ ((18, n.amount) ∷ []))))))

pub line_written_of : (c : Call) → row_written 50 (line_columns (kind_in c) (numbers_in c)) ≡ written_of c
line_written_of c = grind arith

-- a line that is written is read back
pub written_read : (c : Call) (r : Result (List ℕ) TooNarrow) → r ≡ written_of c → IfOk r (λ line. line_said line ≡ Ok c)
written_read c r h = grind (arith, cond_both, line_read)
