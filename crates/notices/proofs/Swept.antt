-- A pass over a list that changes each element by its number, from 1, and counts.
use Rattle.std.proofs.Common.{◌≡◌, ℕ, ◌+◌, ◌<◌, ◌≤◌, Bool, cond, List, [], ◌∷◌, ◌++◌, map, length, get_or, set, count_by, sym, ap, ◌∙◌, subst, arith}
use Rattle.std.specs.List.{range_with_len}
use Rattle.std.proofs.lemmas.List.{get_or-map, get_or-set_other, length-map, map-id, map-set}
use Rattle.std.proofs.lemmas.List.Edits.{fill_by_more}
use Rattle.std.proofs.lemmas.List.FromFn.{fill_by_all, get_or-map-range_with_len, length-map-range_with_len, map-range_with_len_more}
use Rattle.std.proofs.lemmas.List.Sums.{sum_by_push}

-- the first i are changed, and the others as they were
pub record Turned {X : Type 0} (one : ℕ → X) (d : X) (cs : List X) (i : ℕ) (zs : List X) : Type 0 where
  pub done : (k : ℕ) → k < i → get_or zs k d ≡ one (k + 1)
  pub left : (k : ℕ) → i ≤ k → get_or zs k d ≡ get_or cs k d

module _ {X Y : Type 0} (f : X → Y) (one : ℕ → Y) (d : Y) (cs : List Y) where
  -- the next is still as it was
  pub turned_next : (i : ℕ) (rows : List X) (x : X) → i < length rows → Turned one d cs i (map f rows) → f (get_or rows i x) ≡ get_or cs i d
  turned_next i rows x h t = sym (get_or-map f rows i x d h) ∙ t.left i (omega arith)

  pub turned_more : (i : ℕ) (rows : List X) (z : X) → i < length rows → f z ≡ one (i + 1) → Turned one d cs i (map f rows) → Turned one d cs (i + 1) (map f (set rows i z))
  turned_more i rows z h e t =
      let within : i < length (map f rows) = rw length-map h in
      subst (Turned one d cs (i + 1)) (sym (map-set f rows i z ∙ ap (set (map f rows) i) e)) (record {
        done = fill_by_more (λ k. one (k + 1)) (map f rows) i d within t.done;
        left = λ k g. get_or-set_other (map f rows) i k (one (i + 1)) d (omega arith) ∙ t.left k (omega arith);
      })

  pub turned_all : (n : ℕ) (rows : List X) → length rows ≡ n → Turned one d cs n (map f rows) → map f rows ≡ map one (range_with_len 1 n)
  turned_all n rows l t =
      fill_by_all (λ k. one (k + 1)) (map f rows) n d (length-map rows f ∙ l) t.done
      ∙ sym (fill_by_all (λ k. one (k + 1)) (map one (range_with_len 1 n)) n d (length-map-range_with_len one 1 n) (λ k h. get_or-map-range_with_len one 1 n k (k + 1) d h (omega arith)))

pub count_more : (p : ℕ → Bool) (a n j : ℕ) (b : Bool) → a + n ≡ j → p j ≡ b → count_by p (range_with_len a (n + 1)) ≡ count_by p (range_with_len a n) + cond b 1 0
count_more p a n j b e is =
    ap (count_by p) (sym (map-id (range_with_len a (n + 1))) ∙ map-range_with_len_more (λ k. k) a n j e ∙ ap (λ l. l ++ j ∷ []) (map-id (range_with_len a n)))
    ∙ sum_by_push (λ k. cond (p k) 1 0) (range_with_len a n) j
    ∙ ap (λ x. count_by p (range_with_len a n) + cond x 1 0) is
