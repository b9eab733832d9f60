-- A sheet cut into lines.
use Rattle.std.specs.Prelude.{◌≡◌, ℕ, zero, suc, ◌*◌, ◌/◌, ◌%◌, ◌<◌, ◌≤◌, cond, ◌&&◌, List, [], ◌∷◌, length, take, drop, Some, None, Ok, Err, Option, Result, ◌==◌, nat_le, nat_lt, slice_index_or}
use Rattle.std.specs.List.{flat_map}
use Rattle.terms.specs.declared.fault.Fault.{Fault}
use Rattle.terms.specs.declared.fault.Fault.TheVariants.{SheetSize}

-- how many lines a sheet of this length has
abbrev pub count_of : ℕ → Result ℕ Fault
count_of long = cond (nat_le long 50000 && long % 50 == 0) (Ok (long / 50)) (Err SheetSize)

-- the first n lines of a text
unfoldable pub lines_of : ℕ → List ℕ → List (List ℕ)
lines_of zero xs = []
lines_of (suc n) xs = take 50 xs ∷ lines_of n (drop 50 xs)

-- a sheet of n lines, at most 1,000: they are n, have 50 bytes each, and join to the sheet again
pub record Cut (n : ℕ) (sheet : List ℕ) : Type 0 where
  pub few : n ≤ 1000
  pub count : length (lines_of n sheet) ≡ n
  pub wide : (i : ℕ) → i < n → length (slice_index_or (lines_of n sheet) i []) ≡ 50
  pub whole : flat_map (λ line. line) (lines_of n sheet) ≡ sheet

-- one line
abbrev pub line_at : ℕ → List ℕ → Option (List ℕ)
line_at i sheet = cond (nat_lt i (length sheet / 50)) (Some (take 50 (drop (i * 50) sheet))) None

-- it is that line of the sheet
abbrev pub InSheet : ℕ → List ℕ → Option (List ℕ) → Type 0
InSheet i sheet r = (n : ℕ) → n * 50 ≡ length sheet → i < n → r ≡ Some (slice_index_or (lines_of n sheet) i [])
