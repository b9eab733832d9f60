-- The settlement price of a day.
use Rattle.std.specs.Prelude.{ℕ, ◌+◌, ◌-◌, ◌*◌, Bool, true, cond, ◌&&◌, List, [], ◌∷◌, length, is_some, Some, None, Ok, Err, sum_by, filter, Option, Result, nat_le}
use Rattle.terms.specs.Faults.{layer_of, number_of, place_of}
use Rattle.terms.specs.Ranges.{in_range}
use Rattle.terms.specs.declared.fault.Fault.{Fault}
use Rattle.terms.specs.declared.fault.Layer.{Layer}
use Rattle.terms.specs.declared.fault.Layer.TheVariants.{Price}
use Rattle.price.specs.declared.day.Trade.{Trade}
use Rattle.price.specs.declared.day.Band.{Band}
use Rattle.price.specs.declared.day.Session.{Session}
use Rattle.price.specs.declared.day.Rule.{Rule}
use Rattle.price.specs.declared.day.Rule.TheVariants.{LastHalfHour, LastHour, WholeDay, Quotations, Committee}
use Rattle.price.specs.declared.day.Settlement.{Settlement}
use Rattle.price.specs.Letters.{letter_of}
use Rattle.price.specs.Means.{mean}

-- contracts and money of some trades, and their mean
abbrev pub volume : List Trade → ℕ
volume ts = sum_by (λ t. t.count) ts

abbrev pub value : List Trade → ℕ
value ts = sum_by (λ t. t.price * t.count) ts

abbrev pub mean_of : List Trade → Option ℕ
mean_of ts = mean (value ts) (volume ts)

-- a trade of the last seconds of a session that ends at the second last
abbrev pub is_recent : ℕ → ℕ → Trade → Bool
is_recent last window t = nat_le (last - t.second) window

abbrev pub recent : ℕ → ℕ → List Trade → List Trade
recent last window ts = filter (is_recent last window) ts

-- the mean of some trades of a day, if they are at least a fifth of it
abbrev pub fifth : List Trade → List Trade → Option ℕ
fifth some ts = cond (nat_le (volume ts) (5 * volume some)) (mean_of some) None

-- a quotation, if there is one and it lies in the band
abbrev pub banded : Band → Option ℕ → Option ℕ
banded band None = None
banded band (Some p) = cond (nat_le band.low p && nat_le p band.high) (Some p) None

abbrev pub mean_of_two : Option ℕ → Option ℕ → Option ℕ
mean_of_two None ask = None
mean_of_two (Some bid) None = None
mean_of_two (Some bid) (Some ask) = mean (bid + ask) 2

abbrev pub quoted : Session → Option ℕ
quoted s = mean_of_two (banded s.band s.bid) (banded s.band s.ask)

abbrev pub without_trades : List Trade → Option ℕ → Option ℕ
without_trades [] p = p
without_trades (t ∷ ts) p = None

-- what each rule gives, if it applies
abbrev pub by_rule : Session → List Trade → Rule → Option ℕ
by_rule s ts LastHalfHour = fifth (recent s.last 1800 ts) ts
by_rule s ts LastHour = fifth (recent s.last 3600 ts) ts
by_rule s ts WholeDay = mean_of ts
by_rule s ts Quotations = without_trades ts (quoted s)
by_rule s ts Committee = s.committee

-- a price with its rule's letter, else what comes after
abbrev pub or_else : Option ℕ → Rule → Option (ℕ × ℕ) → Option (ℕ × ℕ)
or_else (Some p) r next = Some (p, letter_of r)
or_else None r next = next

abbrev pub first_of : (Rule → Option ℕ) → List Rule → Option (ℕ × ℕ)
first_of f [] = None
first_of f (r ∷ rs) = or_else (f r) r (first_of f rs)

abbrev pub all_rules : List Rule
all_rules = LastHalfHour ∷ LastHour ∷ WholeDay ∷ Quotations ∷ Committee ∷ []

-- numbers in their ranges
abbrev pub is_second : ℕ → Bool
is_second n = is_some (in_range 0 86399 n)

abbrev pub is_price : ℕ → Bool
is_price n = is_some (in_range 1 1000000000 n)

abbrev pub is_count : ℕ → Bool
is_count n = is_some (in_range 1 1000 n)

abbrev pub price_if_any : Option ℕ → Bool
price_if_any None = true
price_if_any (Some p) = is_price p

abbrev pub session_fits : Session → Bool
session_fits s =
    is_second s.last && is_price s.band.low && is_price s.band.high && nat_le s.band.low s.band.high
    && price_if_any s.bid && price_if_any s.ask && price_if_any s.committee

abbrev pub trade_fits : ℕ → Trade → Bool
trade_fits last t = is_second t.second && is_price t.price && is_count t.count && nat_le t.second last

-- the place of the first trade that does not fit, where the first of the list has the place k
abbrev pub first_unfit : ℕ → ℕ → List Trade → Option ℕ
first_unfit last k [] = None
first_unfit last k (t ∷ ts) = cond (trade_fits last t) (first_unfit last (k + 1) ts) (Some k)

-- the place that the input is refused at, if it is: 0 outside the trades, then the first faulty trade
abbrev pub refused_at : Session → List Trade → Option ℕ
refused_at s ts = cond (session_fits s && nat_le (length ts) 4096) (first_unfit s.last 1 ts) (Some 0)

-- a price with its letter, or a refusal with layer, number and place
abbrev pub Priced : Type 0
Priced = Result (ℕ × ℕ) (Layer × ℕ × ℕ)

abbrev pub found : Option (ℕ × ℕ) → Priced
found (Some p) = Ok p
found None = Err (Price, 9, 0)

abbrev pub unless_refused : Option ℕ → Priced → Priced
unless_refused (Some place) r = Err (Price, 8, place)
unless_refused None r = r

abbrev pub settlement : Session → List Trade → Priced
settlement s ts = unless_refused (refused_at s ts) (found (first_of (by_rule s ts) all_rules))

-- what an answer says
abbrev pub told : Result Settlement Fault → Priced
told (Ok s) = Ok (s.price.value, letter_of s.rule)
told (Err f) = Err (layer_of f, number_of f, place_of f)
