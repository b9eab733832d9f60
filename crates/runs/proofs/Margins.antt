-- Margins that are asked of a lawful rule.
use Rattle.std.proofs.Common.{◌≡◌, ℕ, zero, suc, ◌≤◌, Bool, true, false, cond, eqb, List, [], ◌∷◌, map, get_or, ℤ, pos, negsuc, nat_abs, refl, arith}
use Rattle.std.proofs.lemmas.Bool.{ltb-true, lt-leb}
use Rattle.margin.specs.Question.{Answers}
use Rattle.margin.specs.Laws.{Lawful}
use Rattle.steps.specs.State.{Series, no_series}
use Rattle.steps.specs.Margins.{part, both, asks, reaches, lacks}
use Rattle.steps.specs.Steps.{cleared}

part_fair : (rule : Answers) → Lawful rule → (i : ℕ) (x : Series) (n : ℕ) → (part rule i x n).1 ≤ (part rule i x n).0
part_fair rule laws i x n = by (eqb n 0)
  where
    by : (b : Bool) → (cond b (0, 0) (rule i x.size x.price n)).1 ≤ (cond b (0, 0) (rule i x.size x.price n)).0
    by true = omega arith
    by false = (laws.fair i x.size x.price n).ordered

-- the minimum is not above the initial margin
pub asks_fair : (rule : Answers) → Lawful rule → (ss : List Series) (ps : List ℤ) (n : ℕ) → (asks rule ss ps n).1 ≤ (asks rule ss ps n).0
asks_fair rule laws ss ps zero = omega arith
asks_fair rule laws ss ps (suc n) =
    omega (arith, asks_fair rule laws ss ps n, part_fair rule laws (suc n) (get_or ss n no_series) (nat_abs (get_or ps n (pos 0))))

pub short_of_both : (b : ℤ) (initial minimum : ℕ) → minimum ≤ initial → lacks b minimum ≡ true → reaches b initial ≡ false
short_of_both (pos x) initial minimum h short = lt-leb initial x (omega (arith, ltb-true x minimum short))
short_of_both (negsuc x) initial minimum h short = refl

-- marks that are cleared ask the same
pub cleared_at : (ss : List Series) (n : ℕ) → get_or (map cleared ss) n no_series ≡ cleared (get_or ss n no_series)
cleared_at [] n = refl
cleared_at (x ∷ xs) zero = refl
cleared_at (x ∷ xs) (suc n) = cleared_at xs n

pub asks_cleared : (rule : Answers) (ss : List Series) (ps : List ℤ) (n : ℕ) → asks rule (map cleared ss) ps n ≡ asks rule ss ps n
asks_cleared rule ss ps zero = refl
asks_cleared rule ss ps (suc n) =
    λ i. both (asks_cleared rule ss ps n i) (part rule (suc n) (cleared_at ss n i) (nat_abs (get_or ps n (pos 0))))
