-- A position that is closed in part, with the other positions summed beforehand.
use Rattle.std.proofs.Common.{◌≡◌, ℕ, suc, ◌+◌, ◌-◌, ◌≤◌, min, Bool, List, length, get_or, set, ℤ, pos, negsuc, ◌+ℤ◌, nat_abs, sym, ap, ◌∙◌, arith}
use Rattle.std.proofs.lemmas.Int.{ints}
use Rattle.margin.specs.Question.{Answers}
use Rattle.steps.specs.State.{Series, no_series, all_series}
use Rattle.steps.specs.Margins.{part, asks, reaches}
use Rattle.steps.specs.Deals.{least}
use Rattle.exposure.specs.Forced.{posted, closed, suffices, suffices_beside}
use Rattle.exposure.proofs.Sums.{all_changed}

closed_leaves : (z : ℤ) (n : ℕ) → n ≤ nat_abs z → nat_abs (closed z n) ≡ nat_abs z - n
closed_leaves (pos x) n h = omega (arith, ints)
closed_leaves (negsuc x) n h = omega (arith, ints)

module _ (rule : Answers) (ss : List Series) (ps : List ℤ) (i price : ℕ) (held : ℤ) (is : held ≡ get_or ps (i - 1) (pos 0)) where
  -- what the code tests is what the definition says
  pub test_is : (balance : ℤ) (n count : ℕ) (r : Bool) (others : ℕ × ℕ) (rest : List ℤ) (s : Series) → length ps ≡ 24 → 1 ≤ i → i ≤ 24 → s ≡ get_or ss (i - 1) no_series → rest ≡ set ps (i - 1) (pos 0) → others ≡ asks rule ss rest all_series → count ≤ nat_abs held → count ≡ n → r ≡ suffices_beside rule others.0 i s held balance price count → r ≡ suffices rule ss ps i balance price n
  test_is balance n count r others rest s all low high row without summed few same tested =
      let next : i ≡ suc (i - 1) = omega arith in
      let z = closed (get_or ps (i - 1) (pos 0)) count in
      let left : nat_abs held - count ≡ nat_abs z = sym (closed_leaves held count few) ∙ ap (λ h. nat_abs (closed h count)) is in
      let beside = summed ∙ ap (λ held. asks rule ss held all_series) without in
      let whole = (λ j. (beside j).0 + (part rule (next j) (row j) (left j)).0) ∙ sym (all_changed rule ss ps (i - 1) (omega arith) z (omega arith)) in
      tested ∙ (λ j. reaches (balance +ℤ posted (row j) (is j) price count) (whole j)) ∙ ap (suffices rule ss ps i balance price) same

  -- so is the count that it finds
  pub least_is : (balance bits : ℤ) (offer most n r : ℕ) → bits ≡ balance → most ≡ min offer (nat_abs held) → least (suffices rule ss ps i bits price) most ≡ n → r ≡ n → r ≡ least (suffices rule ss ps i balance price) (min offer (nat_abs (get_or ps (i - 1) (pos 0))))
  least_is balance bits offer most n r back bound found same =
      same ∙ sym found ∙ (λ j. least (suffices rule ss ps i (back j) price) ((bound ∙ ap (λ z. min offer (nat_abs z)) is) j))
