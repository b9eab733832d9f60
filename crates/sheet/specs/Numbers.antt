-- A number in a column, written and read.
use Rattle.std.specs.Prelude.{◌≡◌, ℕ, zero, suc, ◌+◌, ◌-◌, ◌*◌, ◌/◌, ◌%◌, ◌^◌, ◌<◌, Bool, cond, not, ◌&&◌, List, [], ◌∷◌, length, Some, None, Option, ◌==◌, nat_le, nat_lt}

-- the byte at one place: left is the number without the digits of the places after it
abbrev pub glyph : Bool → ℕ → ℕ
glyph last left = cond (left == 0 && not last) 32 (48 + left % 10)

-- the bytes of a number in a column of this width
unfoldable pub column_of : ℕ → ℕ → List ℕ
column_of zero n = []
column_of (suc k) n = glyph (k == 0) (n / 10 ^ k) ∷ column_of k n

abbrev pub fits : ℕ → ℕ → Bool
fits width n = nat_lt n (10 ^ width)

-- the value of a digit
abbrev pub digit_of : ℕ → Option ℕ
digit_of b = cond (nat_le 48 b && nat_le b 57) (Some (b - 48)) None

-- the number of digits after those that make n; none where another byte stands among them
abbrev pub digits_of : ℕ → List ℕ → Option ℕ
digits_of n [] = Some n
digits_of n (b ∷ bs) = cond (nat_le 48 b && nat_le b 57) (digits_of (n * 10 + (b - 48)) bs) None

-- at most 18 digits
abbrev pub word_of : List ℕ → Option ℕ
word_of word = cond (nat_le (length word) 18) (digits_of 0 word) None

-- 0, if nothing stands after its digit
abbrev pub nought_of : List ℕ → Option ℕ
nought_of [] = Some 0
nought_of (b ∷ bs) = None

-- the number that a column shows: spaces, then its digits with no nought before them, but for 0 itself
abbrev pub number_of : List ℕ → Option ℕ
number_of [] = None
number_of (b ∷ bs) = cond (b == 32) (number_of bs) (cond (b == 48) (nought_of bs) (word_of (b ∷ bs)))

-- the bytes are the writing of a number that fits them, of at most 18 digits
pub record Shows (xs : List ℕ) (n : ℕ) : Type 0 where
  pub written : xs ≡ column_of (length xs) n
  pub some : 0 < length xs
  pub fit : n < 10 ^ length xs
  pub few : n < 10 ^ 18

-- what is read is what would be written, and what is written is read
pub record Reads (xs : List ℕ) (r : Option ℕ) : Type 0 where
  pub sound : (n : ℕ) → r ≡ Some n → Shows xs n
  pub complete : (n : ℕ) → Shows xs n → r ≡ Some n
