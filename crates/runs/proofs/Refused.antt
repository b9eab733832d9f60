-- What is known of a call that is not refused.
use Rattle.std.proofs.Common.{◌≡◌, ℕ, Bool, true, false, not, ◌&&◌, ◌⊎◌, List, [], ◌∷◌, ◌++◌, Some, None, Option, sym, refl, inl, inr, arith}
use Rattle.std.specs.List.{AllByRecursion}
use Rattle.terms.specs.declared.fault.Fault.{Fault}
use Rattle.steps.specs.Refusals.{refuse, first}

pub none_some : {X Y : Type 0} {x : X} → None ≡ Some x → Y
none_some {x = x} e = let z : ◌≡◌ {A = ℕ} 0 1 = cc in absurd (omega arith)

-- none of its refusals holds
pub all_none : (xs : List (Option Fault)) → first xs ≡ None → AllByRecursion (λ o. o ≡ None) xs
all_none [] h = tt
all_none (None ∷ xs) h = (refl, all_none xs h)
all_none (Some f ∷ xs) h = none_some (sym h)

pub all_front : (xs ys : List (Option Fault)) → AllByRecursion (λ o. o ≡ None) (xs ++ ys) → AllByRecursion (λ o. o ≡ None) xs
all_front [] ys h = tt
all_front (x ∷ xs) ys h = (h.0, all_front xs ys h.1)

pub not_refused : (b : Bool) (f : Fault) → refuse b f ≡ None → b ≡ false
not_refused true f h = none_some (sym h)
not_refused false f h = refl

-- a party under notice that is not refused closes
pub so_closes : (under closes : Bool) (f : Fault) → refuse (under && not closes) f ≡ None → under ≡ true → closes ≡ true
so_closes true true f h u = refl
so_closes true false f h u = none_some (sym h)
so_closes false closes f h u = absurd (let z : ◌≡◌ {A = ℕ} 0 1 = cc in omega arith)

-- a party that is not refused closes, or it is neither under notice nor past the limit
pub closes_or : (closes under past : Bool) (f g : Fault) → refuse (under && not closes) f ≡ None → refuse (not closes && past) g ≡ None → (closes ≡ true) ⊎ ((under ≡ false) × (past ≡ false))
closes_or true under past f g h k = inl refl
closes_or false true past f g h k = inl (so_closes true false f h refl)
closes_or false false past f g h k = inr (refl, not_refused past g k)
