-- Each rule keeps the laws.
use Rattle.std.specs.Prelude.{◌≡◌, ℕ, ◌*◌, ◌≤◌, true}
use Rattle.std.proofs.Common.{mul-zero, zero-mul, mul-le-mul, mul-le-mul_left, mul-le-mul_right, arith}
use Rattle.std.proofs.lemmas.Grind.{common_steps}
use Rattle.margin.specs.Question.{Answers, askable, if_askable}
use Rattle.margin.specs.Laws.{Fair, Lawful, AtLeast, Grows, most}
use Rattle.margin.specs.Rules.{flat_rule, portion, RoundedUp, share_rule, additional_rule}

-- what is known of a question in range
pub record InRanges (series size price count : ℕ) : Type 0 where
  pub series_low : 1 ≤ series
  pub series_high : series ≤ 24
  pub size_high : size ≤ 1000
  pub price_high : price ≤ 1000000000
  pub count_high : count ≤ 1000

pub ranges_of : (series size price count : ℕ) → askable series size price count ≡ true → InRanges series size price count
ranges_of series size price count e = grind (arith, common_steps)

pub value_high : {series size price count : ℕ} → InRanges series size price count → price * size * count ≤ most
value_high q = mul-le-mul (mul-le-mul q.price_high q.size_high) q.count_high

pub extra_high : {extra series size price count : ℕ} → extra ≤ 1000000000000 → InRanges series size price count → extra * count ≤ most
extra_high h q = mul-le-mul h q.count_high

-- ---- answers that are cut to the questions in range

module _ (A : Answers) where
  -- the laws need to be shown of questions in range alone
  cut_lawful : ((series size price count : ℕ) → InRanges series size price count → Fair (A series size price count)) → ((series size price : ℕ) → A series size price 0 ≡ (0, 0)) → Lawful (if_askable A)
  cut_lawful fair none =
      record {
        fair = λ series size price count. grind (arith, common_steps, fair, ranges_of);
        none = λ series size price. grind (arith, common_steps, none);
        out_of_range = λ series size price count e. grind (arith, common_steps);
      }

  cut_grows : ((series size price few many : ℕ) → few ≤ many → AtLeast (A series size price few) (A series size price many)) → Grows (if_askable A)
  cut_grows grows series size price few many up high = let more = grows series size price few many up in grind (arith, common_steps)

-- ---- flat

module _ (each : ℕ → ℕ × ℕ) where
  pub flat_lawful : ((series : ℕ) → (each series).0 ≤ 1000000000000) → ((series : ℕ) → (each series).1 ≤ (each series).0) → Lawful (flat_rule each)
  flat_lawful bounded ordered =
      cut_lawful _
      (λ series size price count q. grind (arith, bounded, ordered, extra_high, mul-le-mul_right))
      (λ series size price. simp mul-zero)

  pub flat_grows : Grows (flat_rule each)
  flat_grows = cut_grows _ (λ series size price few many up. grind (arith, mul-le-mul_left))

-- ---- share

-- a portion of an amount is not above it, and does not fall as that grows
pub portion_below : (amount parts : ℕ) → parts ≤ 10000 → portion amount parts ≤ amount
portion_below amount parts h = grind (arith, mul-le-mul_left)

portion_grows : (less more parts : ℕ) → less ≤ more → portion less parts ≤ portion more parts
portion_grows less more parts h = grind (arith, mul-le-mul_right)

pub portion_rounded_up : (amount parts : ℕ) → RoundedUp amount parts (portion amount parts)
portion_rounded_up amount parts = grind arith

module _ (rate part : ℕ) where
  pub share_lawful : rate ≤ 10000 → part ≤ 10000 → Lawful (share_rule rate part)
  share_lawful r p =
      cut_lawful _
      (λ series size price count q. grind (arith, value_high, portion_below))
      (λ series size price. simp (mul-zero, zero-mul))

  pub share_grows : Grows (share_rule rate part)
  share_grows =
      cut_grows _
      (λ series size price few many up. grind (arith, mul-le-mul_left, portion_grows))

-- ---- additional, over any rule that keeps the laws

module _ (extra : ℕ) (A : Answers) (laws : Lawful A) where
  pub additional_lawful : Lawful (additional_rule extra A)
  additional_lawful =
      cut_lawful _
      (λ series size price count q. let fair = laws.fair series size price count in grind arith)
      (λ series size price. simp (laws.none, mul-zero))
