-- One number more of a text.
use Rattle.std.proofs.Common.{◌≡◌, ℕ, suc, zero, ◌+◌, ◌-◌, ◌<◌, ◌≤◌, eqb, List, [], ◌∷◌, ◌++◌, length, set, take, Some, None, Option, refl, sym, ap, ◌∙◌, arith}
use Rattle.std.proofs.lemmas.Bool.{ne_eqb}
use Rattle.std.proofs.lemmas.List.{take_more_set, append_assoc, append-nil, take_all}
use Rattle.std.specs.Bool.{then_some}
use Rattle.std.specs.Option.{option_map}
use Rattle.sheet.specs.Numbers.{number_of}
use Rattle.tape.specs.Words.{before, after, trimmed_of, with_rest, first_number, if_blank, onto, then_more, numbers_of}

pub read_first : (text trim word rest : List ℕ) (o : Option ℕ) → trim ≡ trimmed_of text → word ≡ before 32 trim → rest ≡ after 32 trim → o ≡ number_of word → first_number text ≡ with_rest o rest
unfolding first_number
read_first text trim word rest o trim_is word_is rest_is e =
    let number : o ≡ number_of (before 32 (trimmed_of text)) = e ∙ ap number_of (word_is ∙ ap (before 32) trim_is) in
    let left : rest ≡ after 32 (trimmed_of text) = rest_is ∙ ap (after 32) trim_is in
    sym (λ i. with_rest (number i) (left i))

one_more : (m : ℕ) (text : List ℕ) → 0 < m → numbers_of m text ≡ then_more (numbers_of (m - 1)) (first_number text)
one_more zero text some = absurd (omega arith)
one_more (suc m) text some =
    let same : m ≡ suc m - 1 = omega arith in ap (λ k. then_more (numbers_of k) (first_number text)) same

module _ (n N : ℕ) (within : n < N) (text : List ℕ) where
  pub none_more : first_number text ≡ None → numbers_of (N - n) text ≡ None
  none_more e = one_more (N - n) text (omega arith) ∙ ap (then_more (numbers_of (N - n - 1))) e

  pub number_more : (items : List ℕ) (x : ℕ) (rest : List ℕ) → length items ≡ N → first_number text ≡ Some (x, rest) → option_map (λ ns. take (n + 1) (set items n x) ++ ns) (numbers_of (N - (n + 1)) rest) ≡ option_map (λ ns. take n items ++ ns) (numbers_of (N - n) text)
  number_more items x rest long e =
      let left : N - (n + 1) ≡ N - n - 1 = omega arith in
      both (numbers_of (N - (n + 1)) rest)
      ∙ ap (λ k. option_map (λ ns. take n items ++ ns) (onto x (numbers_of k rest))) left
      ∙ sym (ap (option_map (λ ns. take n items ++ ns)) (one_more (N - n) text (omega arith) ∙ ap (then_more (numbers_of (N - n - 1))) e))
    where
      both : (o : Option (List ℕ)) → option_map (λ ns. take (n + 1) (set items n x) ++ ns) o ≡ option_map (λ ns. take n items ++ ns) (onto x o)
      both None = refl
      both (Some ns) =
          ap Some (ap (λ l. l ++ ns) (take_more_set items n x (omega (arith, long))) ∙ append_assoc (take n items) (x ∷ []) ns)

-- and when there are as many as were asked for
pub all_read : (items text : List ℕ) (n N : ℕ) → N ≤ n → length items ≡ N → then_some (eqb (length (trimmed_of text)) 0) items ≡ option_map (λ ns. take n items ++ ns) (numbers_of (N - n) text)
all_read items text n N all long =
    let none : 0 ≡ N - n = omega arith in
    by (trimmed_of text) ∙ ap (λ k. option_map (λ ns. take n items ++ ns) (numbers_of k text)) none
  where
    by : (rest : List ℕ) → then_some (eqb (length rest) 0) items ≡ option_map (λ ns. take n items ++ ns) (if_blank rest)
    by [] = ap Some (sym (append-nil (take n items) ∙ take_all n items (omega (arith, long))))
    by (b ∷ bs) = ap (λ t. then_some t items) (ne_eqb (length (b ∷ bs)) 0 (omega arith))
