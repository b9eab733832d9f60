-- Bytes cut into words and numbers.
use Rattle.std.specs.Prelude.{ℕ, suc, zero, not, List, [], ◌∷◌, drop, Some, None, Option, ◌==◌}
use Rattle.std.specs.List.{position_or_len, before_first, after_first}
use Rattle.sheet.specs.Numbers.{number_of}

-- what stands before the first byte c, and what stands after it
abbrev pub before : ℕ → List ℕ → List ℕ
before c text = before_first (λ b. b == c) text

abbrev pub after : ℕ → List ℕ → List ℕ
after c text = after_first (λ b. b == c) text

-- from the first byte on that is no space
abbrev pub trimmed_of : List ℕ → List ℕ
trimmed_of text = drop (position_or_len (λ b. not (b == 32)) text) text

-- the first number of a text, written as on the day sheet, and what stands after it
abbrev pub with_rest : Option ℕ → List ℕ → Option (ℕ × List ℕ)
with_rest None rest = None
with_rest (Some n) rest = Some (n, rest)

unfoldable pub first_number : List ℕ → Option (ℕ × List ℕ)
first_number text = with_rest (number_of (before 32 (trimmed_of text))) (after 32 (trimmed_of text))

-- the numbers of a text that has just so many
abbrev pub if_blank : List ℕ → Option (List ℕ)
if_blank [] = Some []
if_blank (b ∷ bs) = None

abbrev pub onto : ℕ → Option (List ℕ) → Option (List ℕ)
onto n None = None
onto n (Some ns) = Some (n ∷ ns)

abbrev pub then_more : (List ℕ → Option (List ℕ)) → Option (ℕ × List ℕ) → Option (List ℕ)
then_more more None = None
then_more more (Some x) = onto x.0 (more x.1)

abbrev pub numbers_of : ℕ → List ℕ → Option (List ℕ)
numbers_of zero text = if_blank (trimmed_of text)
numbers_of (suc n) text = then_more (numbers_of n) (first_number text)
