-- A loop that looks for the first count that passes.
use Rattle.std.proofs.Common.{◌≡◌, ℕ, suc, ◌+◌, ◌-◌, ◌<◌, ◌≤◌, Bool, true, false, cond, ap, ◌∙◌, arith}
use Rattle.std.proofs.lemmas.Bool.{cond-true, cond-false}
use Rattle.steps.specs.Deals.{first_from, least}

module _ (p : ℕ → Bool) (m n : ℕ) (so_far : least p m ≡ first_from p n (m - n)) where
  turn : n < m → least p m ≡ cond (p n) n (first_from p (n + 1) (m - (n + 1)))
  turn h = let e : m - n ≡ suc (m - (n + 1)) = omega arith in so_far ∙ ap (first_from p n) e

  pub found : n < m → p n ≡ true → least p m ≡ n
  found h t = turn h ∙ cond-true (p n) _ _ t

  pub passed : n < m → p n ≡ false → least p m ≡ first_from p (n + 1) (m - (n + 1))
  passed h f = turn h ∙ cond-false (p n) _ _ f

  pub last : m ≤ n → least p m ≡ n
  last h = let e : m - n ≡ 0 = omega arith in so_far ∙ ap (first_from p n) e
