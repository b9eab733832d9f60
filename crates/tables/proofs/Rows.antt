-- Tables of rows, and what they mean.
use Rattle.std.proofs.Common.{◌≡◌, ℕ, ◌+◌, ◌<◌, List, ◌++◌, map, length, get_or, take, drop, set, sym, ap, ◌∙◌, arith}
use Rattle.std.proofs.lemmas.Grind.{common_steps}
use Rattle.std.proofs.lemmas.List.{get_or-map, map-set, length-map}
use Rattle.std.proofs.lemmas.List.Edits.{map_over_more}

-- what a table means once one row of it has changed
pub ruleset changes = (common_steps, map-set, get_or-map)

module _ {X Y : Type 0} (f : X → Y) (xs : List X) where
  -- what a row means that was read
  pub read : (i j : ℕ) (x : X) (d : Y) → i < length xs → i ≡ j → f (get_or xs i x) ≡ get_or (map f xs) j d
  read i j x d h e = sym (get_or-map f xs i x d h) ∙ ap (λ k. get_or (map f xs) k d) e

  -- each row changed in its turn: what is yet to come is as it was
  pub each_more : (ys : List X) (F : Y → Y) (i : ℕ) (x z : X) → length ys ≡ length xs → i < length xs → map f ys ≡ map F (take i (map f xs)) ++ drop i (map f xs) → x ≡ get_or ys i x → f z ≡ F (f (get_or ys i x)) → map f (set ys i z) ≡ map F (take (i + 1) (map f xs)) ++ drop (i + 1) (map f xs)
  each_more ys F i x z n h e is c =
      map-set f ys i z ∙ ap (set (map f ys) i) (c ∙ ap (λ y. F (f y)) (sym is))
      ∙ map_over_more F (map f xs) (map f ys) i (f x) (rw length-map h) e (ap f is ∙ sym (get_or-map f ys i x (f x) (omega arith)))
