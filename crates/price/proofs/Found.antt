-- The first rule that gives a price, as a search over a list of rules finds it.
use denote.Param.Members.{Mut}
use Rattle.std.proofs.Common.{◌≡◌, ℕ, suc, zero, ◌+◌, ◌<◌, true, List, [], ◌∷◌, length, get_or, Some, None, Option, Bor, sym, refl, ap, ◌∙◌, subst, arith}
use Rattle.std.specs.Fn.{Called}
use Rattle.std.specs.Option.{option_map, MatchOption, IfSome, IsSomeAnd}
use Rattle.std.specs.Iterator.Runs.{Run, ItemsMapTo, AllItemsGive, IsFirstToGive, CallKeepsClosure}
use Rattle.price.specs.declared.day.Rule.{Rule}
use Rattle.price.specs.declared.day.Rule.TheVariants.{LastHalfHour}
use Rattle.price.specs.declared.day.Settlement.{Settlement}
use Rattle.price.specs.Letters.{letter_of}
use Rattle.price.specs.Prices.{or_else, first_of}
use Rattle.price.specs.Tally.{shown}

module _ (f : Rule → Option ℕ) where
  none_of : (rs : List Rule) → ((k : ℕ) → k < length rs → f (get_or rs k LastHalfHour) ≡ None) → first_of f rs ≡ None
  none_of [] none = refl
  none_of (r ∷ rs) none =
      ap (λ o. or_else o r (first_of f rs)) (none 0 (omega arith)) ∙ none_of rs (λ k l. none (suc k) (omega arith))

  first_at : (rs : List Rule) (i p : ℕ) → i < length rs → f (get_or rs i LastHalfHour) ≡ Some p → ((k : ℕ) → k < i → f (get_or rs k LastHalfHour) ≡ None) → first_of f rs ≡ Some (p, letter_of (get_or rs i LastHalfHour))
  first_at [] i p within here before = absurd (omega arith)
  first_at (r ∷ rs) zero p within here before = ap (λ o. or_else o r (first_of f rs)) here
  first_at (r ∷ rs) (suc i) p within here before =
      ap (λ o. or_else o r (first_of f rs)) (before 0 (omega arith)) ∙ first_at rs i p (omega arith) here (λ k l. before (suc k) (omega arith))

-- what a rule gave, from its price with its letter
no_price : (o : Option ℕ) (r : Rule) → None ≡ or_else o r None → o ≡ None
no_price None r e = refl
no_price (Some p) r e = cc

a_price : (o : Option ℕ) (r : Rule) (y : ℕ × ℕ) → Some y ≡ or_else o r None → (o ≡ Some y.0) × (y.1 ≡ letter_of r)
a_price None r y e = cc
a_price (Some p) r y e = let same : y ≡ (p, letter_of r) = cc in (ap (λ z. Some z.0) (sym same), ap (λ z. z.1) same)

module _ {S F : Type 0} {steps : S → Option (Bor Rule) → S → Type 0} (g : Mut F (Bor Rule × Unit {0}) (Option Settlement)) (f : F) (price : Rule → Option ℕ) (p : Run steps) (rs : List Rule) where
  abbrev Gave : Option Settlement → Rule → Type 0
  Gave o r = option_map shown o ≡ or_else (price r) r None

  module _ (items : ItemsMapTo p (λ y. y.now) rs) (calls : (x : Bor Rule) (o : Option Settlement) (q : F) → Called g f (x, tt) o q → Gave o x.now) where
    gave : (k : ℕ) (o : Option Settlement) → k < p.len → IfSome (p.at k) (λ x. Called g f (x, tt) o f) → Gave o (get_or rs k LastHalfHour)
    gave k o within = by (p.at k) (items.2 k LastHalfHour within)
      where
        by : (a : Option (Bor Rule)) → option_map (λ y. y.now) a ≡ Some (get_or rs k LastHalfHour) → IfSome a (λ x. Called g f (x, tt) o f) → Gave o (get_or rs k LastHalfHour)
        by None e h = cc
        by (Some x) e h = let is : x.now ≡ get_or rs k LastHalfHour = cc in subst (Gave o) is (calls x o f h)

    if_some : (a : Option (Bor Rule)) (P : Bor Rule → Type 0) → IsSomeAnd a P → IfSome a P
    if_some None P h = tt
    if_some (Some x) P h = h

    pub first_found : (r : Option Settlement) → CallKeepsClosure g f → MatchOption r ((p.whole ≡ true) × AllItemsGive p g f None) (λ y. (i : ℕ) × (i < p.len) × (p.len ≡ i + 1) × IsFirstToGive p g f (Some y) None i) → option_map shown r ≡ first_of price rs
    first_found None keeps h =
        let all = items.1 h.0 in
        sym (none_of price rs (λ k l. no_price _ _ (gave k None (omega arith) (h.1 keeps k))))
    first_found (Some y) keeps h =
        let at = h.3 keeps in
        let here = a_price _ _ _ (gave h.0 (Some y) h.1 (if_some (p.at h.0) (λ x. Called g f (x, tt) (Some y) f) at.0)) in
        let within = items.0 in
        let found = first_at price rs h.0 y.price.value (omega (arith, h.1)) here.0 (λ k l. no_price _ _ (gave k None (omega (arith, h.1)) (if_some (p.at k) (λ x. Called g f (x, tt) None f) (at.1 k l)))) in
        ap (λ l. Some (y.price.value, l)) here.1 ∙ sym found
