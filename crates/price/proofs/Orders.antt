-- The order of the trades changes at most the place of a refusal.
use Rattle.std.proofs.Common.{◌≡◌, ℕ, ◌+◌, ◌*◌, Bool, true, false, cond, ◌&&◌, leb, List, [], ◌∷◌, length, Some, None, sum_by, filter, Option, sym, refl, ap, ◌∙◌, arith}
use Rattle.std.specs.List.{AllByRecursion}
use Rattle.std.specs.List.Sorted.{IsPermutation}
use Rattle.std.proofs.lemmas.List.Sorted.{IsPermutation-sym, length_permutation, sum_by-IsPermutation}
use Rattle.std.proofs.ByRecursion.{all_shuffled}
use Rattle.std.proofs.lemmas.List.Sums.{sum_by-cons}
use Rattle.price.specs.declared.day.Trade.{Trade}
use Rattle.price.specs.declared.day.Session.{Session}
use Rattle.price.specs.declared.day.Rule.{Rule}
use Rattle.price.specs.declared.day.Rule.TheVariants.{LastHalfHour, LastHour, WholeDay, Quotations, Committee}
use Rattle.price.specs.Means.{mean}
use Rattle.price.specs.Prices.{volume, is_recent, recent, fifth, quoted, without_trades, by_rule, or_else, first_of, all_rules, session_fits, trade_fits, first_unfit, Priced, found, unless_refused, settlement}
use Rattle.price.specs.Rules.{placeless}
use Rattle.price.proofs.Rules.{none_some}

-- a sum over what a filter keeps, as a sum over all
kept_one : {X : Type 0} (f : X → ℕ) (x : X) (kept : List X) (b : Bool) → sum_by f (cond b (x ∷ kept) kept) ≡ cond b (f x) 0 + sum_by f kept
kept_one f x kept true = sum_by-cons f x kept
kept_one f x kept false = omega arith

kept_sum : {X : Type 0} (f : X → ℕ) (p : X → Bool) (xs : List X) → sum_by f (filter p xs) ≡ sum_by (λ x. cond (p x) (f x) 0) xs
kept_sum f p [] = refl
kept_sum f p (x ∷ xs) =
    kept_one f x (filter p xs) (p x) ∙ ap (λ n. cond (p x) (f x) 0 + n) (kept_sum f p xs) ∙ sym (sum_by-cons (λ y. cond (p y) (f y) 0) x xs)

kept_shuffled : {X : Type 0} (f : X → ℕ) (p : X → Bool) (xs ys : List X) → IsPermutation xs ys → sum_by f (filter p ys) ≡ sum_by f (filter p xs)
kept_shuffled f p xs ys h = kept_sum f p ys ∙ sum_by-IsPermutation (λ x. cond (p x) (f x) 0) xs ys h ∙ sym (kept_sum f p xs)

-- a rule is tried alike wherever it gives the same
pub first_alike : (f g : Rule → Option ℕ) → ((r : Rule) → f r ≡ g r) → (rs : List Rule) → first_of f rs ≡ first_of g rs
first_alike f g e [] = refl
first_alike f g e (r ∷ rs) = λ i. or_else (e r i) r (first_alike f g e rs i)

-- all trades fit exactly where there is no first that does not
abbrev pub Fit : ℕ → List Trade → Type 0
Fit last ts = AllByRecursion (λ t. trade_fits last t ≡ true) ts

pub all_fit : (last k : ℕ) (ts : List Trade) → first_unfit last k ts ≡ None → Fit last ts
all_fit last k [] e = tt
all_fit last k (t ∷ ts) e = by (trade_fits last t) refl e (all_fit last (k + 1) ts)
  where
    by : (b : Bool) → trade_fits last t ≡ b → cond b (first_unfit last (k + 1) ts) (Some k) ≡ None → (first_unfit last (k + 1) ts ≡ None → Fit last ts) → Fit last (t ∷ ts)
    by true f e later = (f, later e)
    by false f e later = none_some (sym e)

none_unfit : (last k : ℕ) (ts : List Trade) → Fit last ts → first_unfit last k ts ≡ None
none_unfit last k [] a = refl
none_unfit last k (t ∷ ts) a = ap (λ b. cond b (first_unfit last (k + 1) ts) (Some k)) a.0 ∙ none_unfit last (k + 1) ts a.1

-- two refusals, or two answers that are alike
alike : (o n : Option ℕ) (r q : Priced) → (o ≡ None → n ≡ None) → (n ≡ None → o ≡ None) → placeless r ≡ placeless q → placeless (unless_refused o r) ≡ placeless (unless_refused n q)
alike None None r q to from e = e
alike None (Some k) r q to from e = none_some (sym (to refl))
alike (Some k) None r q to from e = none_some (sym (from refl))
alike (Some k) (Some m) r q to from e = refl

alike_if : (b : Bool) (o n : Option ℕ) (r q : Priced) → (o ≡ None → n ≡ None) → (n ≡ None → o ≡ None) → placeless r ≡ placeless q → placeless (unless_refused (cond b o (Some 0)) r) ≡ placeless (unless_refused (cond b n (Some 0)) q)
alike_if true o n r q to from e = alike o n r q to from e
alike_if false o n r q to from e = refl

no_trades_alike : (o : Option ℕ) (ts us : List Trade) → length us ≡ length ts → without_trades us o ≡ without_trades ts o
no_trades_alike o [] [] e = refl
no_trades_alike o [] (u ∷ us) e = absurd (omega arith)
no_trades_alike o (t ∷ ts) [] e = absurd (omega arith)
no_trades_alike o (t ∷ ts) (u ∷ us) e = refl

module _ (s : Session) (ts us : List Trade) (h : IsPermutation ts us) where
  day_volume : volume us ≡ volume ts
  day_volume = sum_by-IsPermutation (λ t. t.count) ts us h

  window_alike : (window : ℕ) → fifth (recent s.last window us) us ≡ fifth (recent s.last window ts) ts
  window_alike window =
      let p = is_recent s.last window in
      let some = kept_shuffled (λ t. t.count) p ts us h in
      let money = kept_shuffled (λ t. t.price * t.count) p ts us h in
      λ i. cond (leb (day_volume i) (5 * some i)) (mean (money i) (some i)) None

  rule_alike : (r : Rule) → by_rule s us r ≡ by_rule s ts r
  rule_alike LastHalfHour = window_alike 1800
  rule_alike LastHour = window_alike 3600
  rule_alike WholeDay = λ i. mean (sum_by-IsPermutation (λ t. t.price * t.count) ts us h i) (day_volume i)
  rule_alike Quotations = no_trades_alike (quoted s) ts us (length_permutation ts us h)
  rule_alike Committee = refl

  pub any_order : placeless (settlement s us) ≡ placeless (settlement s ts)
  any_order =
      let last = s.last in
      let few = length_permutation ts us h in
      let answers : ℕ → Priced = λ l. unless_refused (cond (session_fits s && leb l 4096) (first_unfit last 1 us) (Some 0)) (found (first_of (by_rule s us) all_rules)) in
      ap (λ l. placeless (answers l)) few
      ∙ alike_if (session_fits s && leb (length ts) 4096) (first_unfit last 1 us) (first_unfit last 1 ts)
      (found (first_of (by_rule s us) all_rules)) (found (first_of (by_rule s ts) all_rules))
      (λ e. none_unfit last 1 ts (all_shuffled _ us ts (IsPermutation-sym ts us h) (all_fit last 1 us e)))
      (λ e. none_unfit last 1 us (all_shuffled _ ts us h (all_fit last 1 ts e)))
      (ap (λ o. placeless (found o)) (first_alike (by_rule s us) (by_rule s ts) rule_alike all_rules))
