-- One turn of each loop that looks for the lowest of many.
use Rattle.std.proofs.Common.{◌≡◌, ℕ, ◌+◌, ◌<◌, Bool, true, false, cond, not, ◌&&◌, List, map, length, get_or, drop, Some, sym, ap, ◌∙◌}
use Rattle.std.proofs.lemmas.List.{drop_more, get_or-map, length-map}
use Rattle.std.proofs.lemmas.Bool.{cond-true, cond-false}
use Rattle.terms.specs.declared.fault.Fault.TheVariants.{Marking}
use Rattle.steps.specs.State.{is_open, no_series}
use Rattle.steps.specs.Refusals.{unmarked}
use Rattle.tables.specs.declared.series.Series.{Series as SeriesRow}
use Rattle.tables.specs.Views.{series_of}

-- series i + 1, and whether it lacks its mark
module _ (rows : List SeriesRow) (i : ℕ) (x : SeriesRow) (t : Bool) (h : i < length rows) (e : t ≡ (is_open (get_or rows i x).stage && not (get_or rows i x).marked)) where
  unmarked_more : unmarked (i + 1) (drop i (map series_of rows)) ≡ cond t (Some (Marking (i + 1))) (unmarked (i + 1 + 1) (drop (i + 1) (map series_of rows)))
  unmarked_more =
      let l : i < length (map series_of rows) = rw length-map h in
      let at = get_or-map series_of rows i x no_series h in
      rw (drop_more (map series_of rows) i no_series l)
      (ap (λ b. cond b (Some (Marking (i + 1))) (unmarked (i + 1 + 1) (drop (i + 1) (map series_of rows)))) (ap (λ s. is_open s.stage && not s.marked) at ∙ sym e))

  pub unmarked_here : t ≡ true → unmarked (i + 1) (drop i (map series_of rows)) ≡ Some (Marking (i + 1))
  unmarked_here b = unmarked_more ∙ cond-true _ _ _ b

  pub unmarked_on : t ≡ false → unmarked (i + 1) (drop i (map series_of rows)) ≡ unmarked (i + 1 + 1) (drop (i + 1) (map series_of rows))
  unmarked_on b = unmarked_more ∙ cond-false _ _ _ b
