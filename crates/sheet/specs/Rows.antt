-- Columns side by side in a row of bytes.
use Rattle.std.specs.Prelude.{ℕ, ◌-◌, Bool, true, cond, List, [], ◌∷◌, ◌++◌, replicate, Some, None, Ok, Err, Option, Result}
use Rattle.std.specs.List.{list_all}
use Rattle.sheet.specs.declared.number.TooNarrow.{TooNarrow}
use Rattle.sheet.specs.Numbers.{column_of, fits}

-- a field as it is written: its number, or spaces where it has none
abbrev pub entry_of : ℕ → Option ℕ → List ℕ
entry_of width None = replicate width 32
entry_of width (Some n) = column_of width n

abbrev pub entry_fits : ℕ → Option ℕ → Bool
entry_fits width None = true
entry_fits width (Some n) = fits width n

-- columns in a row of n bytes, and newlines to its end
abbrev pub row_of : ℕ → List (ℕ × Option ℕ) → List ℕ
row_of n [] = replicate n 10
row_of n (c ∷ cs) = entry_of c.0 c.1 ++ row_of (n - c.0) cs

abbrev pub row_written : ℕ → List (ℕ × Option ℕ) → Result (List ℕ) TooNarrow
row_written n cs = cond (list_all (λ c. entry_fits c.0 c.1) cs) (Ok (row_of n cs)) (Err (record {}))
