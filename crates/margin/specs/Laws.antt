-- What holds of the answers of every margin rule, and what holds of some.
use Rattle.std.specs.Prelude.{◌≡◌, ℕ, ◌≤◌, false}
use Rattle.std.proofs.Common.{sym, subst}
use Rattle.margin.specs.Question.{Answers, askable}

-- no answer is above 10^15 rials
abbrev pub most : ℕ
most = 1000000000000000

-- minimum ≤ initial ≤ most
pub record Fair (margins : ℕ × ℕ) : Type 0 where
  pub ordered : margins.1 ≤ margins.0
  pub bounded : margins.0 ≤ most

pub record Lawful (A : Answers) : Type 0 where
  pub fair : (series size price count : ℕ) → Fair (A series size price count)
  pub none : (series size price : ℕ) → A series size price 0 ≡ (0, 0)
  pub out_of_range : (series size price count : ℕ) → askable series size price count ≡ false → A series size price count ≡ (0, 0)

-- one answer asks no less than another, in both parts
pub record AtLeast (less more : ℕ × ℕ) : Type 0 where
  pub initial : less.0 ≤ more.0
  pub minimum : less.1 ≤ more.1

-- more contracts never ask less
abbrev pub Grows : Answers → Type 0
Grows A = (series size price few many : ℕ) → few ≤ many → many ≤ 1000 → AtLeast (A series size price few) (A series size price many)

-- two rules ask the same, whatever the question
abbrev pub Alike : Answers → Answers → Type 0
Alike A B = (series size price count : ℕ) → A series size price count ≡ B series size price count

-- nothing is asked, whatever the question
abbrev pub AsksNothing : Answers → Type 0
AsksNothing A = (series size price count : ℕ) → A series size price count ≡ (0, 0)

-- what generic code knows of an answer that it was given
pub answer_fair : {A : Answers} {series size price count : ℕ} {margins : ℕ × ℕ} → Lawful A → margins ≡ A series size price count → Fair margins
answer_fair {series = series} {size = size} {price = price} {count = count} laws e = subst Fair (sym e) (laws.fair series size price count)
