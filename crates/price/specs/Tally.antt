-- What one pass over the trades of a day leaves.
use Rattle.std.specs.Prelude.{◌≡◌, ℕ, ◌+◌, ◌*◌, cond, List, Some, None, Ok, Err, Option, Result, nat_le}
use Rattle.std.specs.Option.{option_map}
use Rattle.terms.specs.declared.fault.Fault.{Fault}
use Rattle.terms.specs.declared.fault.Fault.TheVariants.{PriceInput}
use Rattle.price.specs.declared.day.Trade.{Trade}
use Rattle.price.specs.declared.day.Session.{Session}
use Rattle.price.specs.declared.day.Settlement.{Settlement}
use Rattle.price.specs.declared.day.Rule.{Rule}
use Rattle.price.specs.declared.day.Rule.TheVariants.{LastHalfHour, LastHour, WholeDay, Quotations, Committee}
use Rattle.price.specs.declared.sums.Sum.{Sum}
use Rattle.price.specs.declared.sums.Deal.{Deal}
use Rattle.price.specs.declared.settlement.CheckedSession.{CheckedSession}
use Rattle.price.specs.declared.sums.Sums.{Sums}
use Rattle.price.specs.Means.{mean}
use Rattle.price.specs.Letters.{letter_of}
use Rattle.price.specs.Prices.{volume, value, recent, quoted, first_unfit}

-- a sum of these trades
abbrev pub SumOf : List Trade → Sum → Type 0
SumOf ts s = (s.volume ≡ volume ts) × (s.value ≡ value ts)

abbrev pub SumsOf : ℕ → List Trade → Sums → Type 0
SumsOf last ts s = SumOf (recent last 1800 ts) s.half × SumOf (recent last 3600 ts) s.hour × SumOf ts s.day

-- one deal more in a window
abbrev pub Wider : ℕ → Sum → Deal → Sum → Type 0
Wider window s d r =
    (r.volume ≡ s.volume + cond (nat_le d.ago window) d.count.value 0)
    × (r.value ≡ s.value + cond (nat_le d.ago window) (d.price.value * d.count.value) 0)

abbrev pub Grown : Sums → Deal → Sums → Type 0
Grown s d r =
    Wider 1800 s.half d r.half × Wider 3600 s.hour d r.hour
    × ((r.day.volume ≡ s.day.volume + d.count.value) × (r.day.value ≡ s.day.value + d.price.value * d.count.value))

-- the sums where every trade fits, else the fault of the first that does not
abbrev pub Tallied : ℕ → List Trade → Result Sums Fault → Type 0
Tallied last ts (Ok s) = (first_unfit last 1 ts ≡ None) × SumsOf last ts s
Tallied last ts (Err f) = option_map PriceInput (first_unfit last 1 ts) ≡ Some f

-- the session that was handed in
abbrev pub raw : CheckedSession → Session
raw s =
    record {
      last = s.last.value;
      band = s.band;
      bid = option_map (λ p. p.value) s.bid;
      ask = option_map (λ p. p.value) s.ask;
      committee = option_map (λ p. p.value) s.committee;
    }

-- what each rule gives, by the sums of the trades
abbrev pub fifth_of : Sum → Sum → Option ℕ
fifth_of some day = cond (nat_le day.volume (5 * some.volume)) (mean some.value some.volume) None

abbrev pub by_sums : Session → Sums → Rule → Option ℕ
by_sums s sums LastHalfHour = fifth_of sums.half sums.day
by_sums s sums LastHour = fifth_of sums.hour sums.day
by_sums s sums WholeDay = mean sums.day.value sums.day.volume
by_sums s sums Quotations = quoted s
by_sums s sums Committee = s.committee

abbrev pub shown : Settlement → ℕ × ℕ
shown s = (s.price.value, letter_of s.rule)
