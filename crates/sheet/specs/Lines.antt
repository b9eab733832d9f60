-- A line of the sheet, read and written.
use Rattle.std.specs.Prelude.{◌≡◌, ℕ, Bool, true, cond, ◌&&◌, List, [], ◌∷◌, ◌++◌, length, take, drop, Some, None, Ok, Err, Option, Result, ◌==◌, nat_le}
use Rattle.std.specs.Borrow.{Bor}
use Rattle.std.specs.List.{list_all}
use Rattle.std.specs.Option.{ok_or}
use Rattle.terms.specs.declared.fault.Fault.{Fault}
use Rattle.terms.specs.declared.fault.Fault.TheVariants.{Field, Code}
use Rattle.terms.specs.declared.call.Call.{Call}
use Rattle.sheet.specs.declared.kind.Kind.{Kind}
use Rattle.sheet.specs.declared.kind.Fields.{Fields}
use Rattle.sheet.specs.declared.number.TooNarrow.{TooNarrow}
use Rattle.sheet.specs.Numbers.{column_of, number_of}
use Rattle.sheet.specs.Rows.{entry_of, entry_fits}
use Rattle.sheet.specs.Kinds.{kind_of, code_of, uses_of, call_of, kind_in, numbers_in, row}

abbrev pub then : {X Y : Type 0} → Result X Fault → (X → Result Y Fault) → Result Y Fault
then (Ok x) f = f x
then (Err e) f = Err e

abbrev pub blank : List ℕ → Bool
blank xs = list_all (λ b. b == 32) xs

-- a field that is used has a number, and one that is not is blank and has none
abbrev pub entry_said : ℕ → Bool → List ℕ → Result (Option ℕ) Fault
entry_said place used xs =
    cond used (then (ok_or (number_of xs) (Field place)) (λ n. Ok (Some n))) (cond (blank xs) (Ok None) (Err (Field place)))

-- the field at this place, of this width, at the start of a text, and the text after it
abbrev pub field_of : ℕ → ℕ → Bool → List ℕ → Result (Option ℕ × List ℕ) Fault
field_of place width used xs =
    cond (nat_le width (length xs)) (then (entry_said place used (take width xs)) (λ entry. Ok (entry, drop width xs))) (Err (Field place))

-- a newline, and nothing after it
abbrev pub ended : List ℕ → Result (Unit {0}) Fault
ended [] = Err (Field 8)
ended (b ∷ []) = cond (b == 10) (Ok tt) (Err (Field 8))
ended (b ∷ (c ∷ cs)) = Err (Field 8)

-- the fields of a line in turn, at places 2 to 7, then its end
abbrev pub fields_of : Fields Bool → List ℕ → Result (Fields (Option ℕ)) Fault
fields_of uses xs =
    then (field_of 2 5 uses.first xs) (λ a.
    then (field_of 3 5 uses.second a.1) (λ b.
    then (field_of 4 3 uses.series b.1) (λ c.
    then (field_of 5 5 uses.count c.1) (λ d.
    then (field_of 6 11 uses.price d.1) (λ e.
    then (field_of 7 18 uses.amount e.1) (λ f.
    then (ended f.1) (λ _.
    Ok (row a.0 b.0 c.0 d.0 e.0 f.0))))))))

-- a result that holds what is left of a text, with that text itself
abbrev pub unlent : Result (Option ℕ × Bor (List ℕ)) Fault → Result (Option ℕ × List ℕ) Fault
unlent (Ok x) = Ok (x.0, x.1.now)
unlent (Err e) = Err e

-- the code, then whether it is that of a call
abbrev pub kind_said : ℕ → ℕ → Result Kind Fault
kind_said tens units = then (ok_or (number_of (tens ∷ (units ∷ []))) (Field 1)) (λ code. ok_or (kind_of code) Code)

abbrev pub call_said : Kind → List ℕ → Result Call Fault
call_said kind rest = then (fields_of (uses_of kind) rest) (λ fields. Ok (call_of kind fields))

abbrev pub coded_said : ℕ → ℕ → List ℕ → Result Call Fault
coded_said tens units rest = then (kind_said tens units) (λ kind. call_said kind rest)

abbrev pub line_said : List ℕ → Result Call Fault
line_said [] = Err (Field 1)
line_said (tens ∷ []) = Err (Field 1)
line_said (tens ∷ (units ∷ rest)) = coded_said tens units rest

abbrev pub rest_of : Fields (Option ℕ) → List ℕ
rest_of f =
    entry_of 5 f.first ++ (entry_of 5 f.second ++ (entry_of 3 f.series
    ++ (entry_of 5 f.count ++ (entry_of 11 f.price ++ (entry_of 18 f.amount ++ (10 ∷ []))))))

-- the line of a call
abbrev pub line_of : Call → List ℕ
line_of call = column_of 2 (code_of (kind_in call)) ++ rest_of (numbers_in call)

-- whether its numbers fit their fields
abbrev pub fitting : Fields (Option ℕ) → Bool
fitting f = entry_fits 5 f.first && (entry_fits 5 f.second && (entry_fits 3 f.series && (entry_fits 5 f.count && (entry_fits 11 f.price && entry_fits 18 f.amount))))

abbrev pub written_of : Call → Result (List ℕ) TooNarrow
written_of call = cond (fitting (numbers_in call)) (Ok (line_of call)) (Err (record {}))

-- a line is read as a call exactly if it is the line that would be written for that call
pub record ReadsLine (line : List ℕ) (r : Result Call Fault) : Type 0 where
  pub written : (call : Call) → r ≡ Ok call → line ≡ line_of call
  pub fit : (call : Call) → r ≡ Ok call → fitting (numbers_in call) ≡ true
  pub read : (call : Call) → fitting (numbers_in call) ≡ true → line ≡ line_of call → r ≡ Ok call
