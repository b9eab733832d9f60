-- Sums of margins: how large, one series more, and with one position changed.
use Rattle.std.proofs.Common.{◌≡◌, ℕ, zero, suc, ◌+◌, ◌-◌, ◌*◌, ◌<◌, ◌≤◌, eqb, ◌≢◌, List, length, get_or, set, ℤ, pos, nat_abs, sym, refl, ap, ◌∙◌, subst, inl, inr, zero-le, arith}
use Rattle.std.proofs.lemmas.List.{get_or-set_same, get_or-set_other}
use Rattle.std.proofs.lemmas.Bool.{cases_eq, cond_both}
use Rattle.margin.specs.Question.{Answers}
use Rattle.margin.specs.Laws.{Fair, Lawful}
use Rattle.steps.specs.State.{Series, no_series, all_series}
use Rattle.steps.specs.Margins.{both, part, asks}
use Rattle.exposure.specs.Bounds.{FitsAll}

module _ (rule : Answers) (laws : Lawful rule) where
  part_fair : (i : ℕ) (s : Series) (n : ℕ) → Fair (part rule i s n)
  part_fair i s n =
      cond_both (eqb n 0) _ _ Fair (λ _. record { ordered = zero-le; bounded = zero-le }) (λ _. laws.fair i s.size s.price n)

  asks_ordered : (ss : List Series) (ps : List ℤ) (n : ℕ) → (asks rule ss ps n).1 ≤ (asks rule ss ps n).0
  asks_ordered ss ps zero = zero-le
  asks_ordered ss ps (suc n) = omega (arith, asks_ordered ss ps n, part_fair (suc n) (get_or ss n no_series) (nat_abs (get_or ps n (pos 0))))

  asks_bounded : (ss : List Series) (ps : List ℤ) (n : ℕ) → (asks rule ss ps n).0 ≤ n * 1000000000000000
  asks_bounded ss ps zero = zero-le
  asks_bounded ss ps (suc n) = omega (arith, asks_bounded ss ps n, part_fair (suc n) (get_or ss n no_series) (nat_abs (get_or ps n (pos 0))))

  -- what was answered for one position, and what was summed of the first n
  pub part_fits : (i : ℕ) (s : Series) (n : ℕ) {margins : ℕ × ℕ} → margins ≡ part rule i s n → FitsAll margins
  part_fits i s n e =
      let fair = part_fair i s n in
      subst FitsAll (sym e) (record { ordered = fair.ordered; bounded = omega (arith, fair.bounded) })

  pub asks_fit : (ss : List Series) (ps : List ℤ) (n : ℕ) {margins : ℕ × ℕ} → n ≤ 24 → margins ≡ asks rule ss ps n → FitsAll margins
  asks_fit ss ps n h e = subst FitsAll (sym e) (record { ordered = asks_ordered ss ps n; bounded = omega (arith, asks_bounded ss ps n) })

  pub all_fit : (ss : List Series) (ps : List ℤ) {margins : ℕ × ℕ} → margins ≡ asks rule ss ps all_series → FitsAll margins
  unfolding all_series
  all_fit ss ps e = asks_fit ss ps 24 (omega arith) e

module _ (rule : Answers) (ss : List Series) (ps : List ℤ) where
  -- one turn of the loop that sums, at series n
  pub asks_more : (sum one next : ℕ × ℕ) (n v count : ℕ) (z : ℤ) → 1 ≤ n → v ≡ n → z ≡ get_or ps (v - 1) (pos 0) → count ≡ nat_abs z → sum ≡ asks rule ss ps (n - 1) → one ≡ part rule v (get_or ss (v - 1) no_series) count → next ≡ both sum one → next ≡ asks rule ss ps (n + 1 - 1)
  asks_more sum one next n v count z low is held size so_far asked more =
      let up : v ≡ suc (n - 1) = omega arith in
      let at : v - 1 ≡ n - 1 = omega arith in
      let after : suc (n - 1) ≡ n + 1 - 1 = omega arith in
      let held' = size ∙ ap nat_abs (held ∙ ap (λ k. get_or ps k (pos 0)) at) in
      more ∙ (λ j. both (so_far j) (asked j)) ∙ (λ j. both (asks rule ss ps (n - 1)) (part rule (up j) (get_or ss (at j) no_series) (held' j))) ∙ ap (asks rule ss ps) after

  pub asks_all : (sum : ℕ × ℕ) (n : ℕ) → n ≡ 25 → sum ≡ asks rule ss ps (n - 1) → sum ≡ asks rule ss ps all_series
  unfolding all_series
  asks_all sum n end so_far = so_far ∙ ap (λ k. asks rule ss ps (k - 1)) end

module _ (rule : Answers) (ss : List Series) (ps : List ℤ) (k : ℕ) (l : k < length ps) where
  -- a series before k asks the same
  asks_before : (y z : ℤ) (n : ℕ) → n ≤ k → asks rule ss (set ps k y) n ≡ asks rule ss (set ps k z) n
  asks_before y z zero h = refl
  asks_before y z (suc n) h =
      let ne : n ≢ k = omega arith in
      let e = get_or-set_other ps k n y (pos 0) ne ∙ sym (get_or-set_other ps k n z (pos 0) ne) in
      λ i. both (asks_before y z n (omega arith) i) (part rule (suc n) (get_or ss n no_series) (nat_abs (e i)))

  -- the sum with the position at z is the sum with it at 0, and what z asks
  asks_changed : (z : ℤ) (n : ℕ) → k < n → (asks rule ss (set ps k z) n).0 ≡ (asks rule ss (set ps k (pos 0)) n).0 + (part rule (suc k) (get_or ss k no_series) (nat_abs z)).0
  asks_changed z zero h = absurd (omega arith)
  asks_changed z (suc n) h =
      elim (cases_eq n k) [
        | inl e ↦
            let x : get_or (set ps k z) n (pos 0) ≡ z = ap (λ i. get_or (set ps k z) i (pos 0)) e ∙ get_or-set_same ps k z (pos 0) l in
            let y : get_or (set ps k (pos 0)) n (pos 0) ≡ pos 0 = ap (λ i. get_or (set ps k (pos 0)) i (pos 0)) e ∙ get_or-set_same ps k (pos 0) (pos 0) l in
            let a = ap (λ q. q.0) (asks_before z (pos 0) n (omega (arith, e))) in
            let b : (part rule (suc n) (get_or ss n no_series) (nat_abs (get_or (set ps k z) n (pos 0)))).0 ≡ (part rule (suc k) (get_or ss k no_series) (nat_abs z)).0 = λ i. (part rule (suc (e i)) (get_or ss (e i) no_series) (nat_abs (x i))).0 in
            let d : (part rule (suc n) (get_or ss n no_series) (nat_abs (get_or (set ps k (pos 0)) n (pos 0)))).0 ≡ 0 = ap (λ q. (part rule (suc n) (get_or ss n no_series) (nat_abs q)).0) y in
            omega (arith, a, b, d)
        | inr ne ↦
            let e = get_or-set_other ps k n z (pos 0) ne ∙ sym (get_or-set_other ps k n (pos 0) (pos 0) ne) in
            let b = ap (λ q. (part rule (suc n) (get_or ss n no_series) (nat_abs q)).0) e in
            omega (arith, asks_changed z n (omega (arith, ne)), b)
      ]

  pub all_changed : (z : ℤ) → k < 24 → (asks rule ss (set ps k z) all_series).0 ≡ (asks rule ss (set ps k (pos 0)) all_series).0 + (part rule (suc k) (get_or ss k no_series) (nat_abs z)).0
  unfolding all_series
  all_changed z h = asks_changed z 24 h
