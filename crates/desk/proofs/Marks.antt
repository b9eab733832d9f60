-- A mark, by the numbers that came in.
use Rattle.std.proofs.Common.{◌≡◌, ℕ, ◌-◌, cond, List, map, get_or, set, ℤ, pos, ◌-ℤ◌, ◌*ℤ◌, sym, ap, ◌∙◌}
use Rattle.std.specs.List.{range_with_len}
use Rattle.terms.specs.declared.call.Call.{Call}
use Rattle.steps.specs.State.{State, Series, Customer, house, is_customer, customer, series_at}
use Rattle.steps.specs.Steps.{post, posts, mark_post, settled_at, ended_at}
use Rattle.tables.specs.Views.{closed_out}
use Rattle.desk.proofs.Posts.{posts_are}

module _ (s : State) {i j q p : ℕ} (at : j ≡ i) (price : p ≡ q) where
  pub mark_posts : (c : Call) (x : Series) {ms : List ℤ} → x ≡ series_at s j → ms ≡ map (λ n. cond (is_customer n) (get_or (customer s n).positions (j - 1) (pos 0) *ℤ pos x.size *ℤ (pos p -ℤ pos x.price)) (pos 0)) (range_with_len 1 house) → map (post s c) (range_with_len 1 house) ≡ map (mark_post s i q) (range_with_len 1 house) → ms ≡ posts s c
  mark_posts c x row e is =
      let to = row ∙ ap (series_at s) at in
      e
      ∙ (λ k. map (λ n. cond (is_customer n) (get_or (customer s n).positions (at k - 1) (pos 0) *ℤ pos (to k).size *ℤ (pos (price k) -ℤ pos (to k).price)) (pos 0)) (range_with_len 1 house))
      ∙ sym is ∙ sym (posts_are s c)

  pub marked : {ss : List Series} → ss ≡ set s.series (j - 1) (settled_at (series_at s j) p) → ss ≡ set s.series (i - 1) (settled_at (series_at s i) q)
  marked e = e ∙ (λ k. set s.series (at k - 1) (settled_at (series_at s (at k)) (price k)))

  pub ended : {ss : List Series} → ss ≡ set s.series (j - 1) (ended_at (series_at s j) p) → ss ≡ set s.series (i - 1) (ended_at (series_at s i) q)
  ended e = e ∙ (λ k. set s.series (at k - 1) (ended_at (series_at s (at k)) (price k)))

  pub closed : {cs : List Customer} → cs ≡ map (closed_out j) s.customers → cs ≡ map (closed_out i) s.customers
  closed e = e ∙ (λ k. map (closed_out (at k)) s.customers)
