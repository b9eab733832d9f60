-- The rules of the settlement price as relations, and what is true of every price that is found.
use Rattle.std.specs.Prelude.{◌≡◌, ℕ, ◌+◌, ◌*◌, ◌<◌, ◌≤◌, false, List, [], ◌∷◌, map, is_ok, IfOk, Some, None, Ok, Err, Option, Result}
use Rattle.std.specs.List.{AllByRecursion}
use Rattle.std.specs.List.Sorted.{IsPermutation}
use Rattle.terms.specs.declared.fault.Fault.{Fault}
use Rattle.terms.specs.declared.fault.Layer.{Layer}
use Rattle.price.specs.declared.day.Trade.{Trade}
use Rattle.price.specs.declared.day.Session.{Session}
use Rattle.price.specs.declared.day.Rule.{Rule}
use Rattle.price.specs.declared.day.Rule.TheVariants.{LastHalfHour, LastHour, WholeDay, Quotations, Committee}
use Rattle.price.specs.declared.day.Settlement.{Settlement}
use Rattle.price.specs.Means.{Nearest}
use Rattle.price.specs.Letters.{letter_of}
use Rattle.price.specs.Prices.{volume, value, recent, refused_at, settlement, told, Priced}

-- p is the mean of these trades, and there are some
abbrev pub MeanOf : List Trade → ℕ → Type 0
MeanOf ts p = Nearest (value ts) (volume ts) p

-- some trades of a day weigh enough: five times their volume is not less than the day's
abbrev pub Enough : List Trade → List Trade → Type 0
Enough some ts = volume ts ≤ 5 * volume some

-- bid and ask are there and in the band, and p is their mean
pub record Quoted (s : Session) (p : ℕ) : Type 0 where
  pub bid : ℕ
  pub ask : ℕ
  pub bid_is : s.bid ≡ Some bid
  pub ask_is : s.ask ≡ Some ask
  pub bid_in : (s.band.low ≤ bid) × (bid ≤ s.band.high)
  pub ask_in : (s.band.low ≤ ask) × (ask ≤ s.band.high)
  pub between : Nearest (bid + ask) 2 p

-- a rule applies to a day, and gives p
abbrev pub Gives : Session → List Trade → Rule → ℕ → Type 0
Gives s ts LastHalfHour p = Enough (recent s.last 1800 ts) ts × MeanOf (recent s.last 1800 ts) p
Gives s ts LastHour p = Enough (recent s.last 3600 ts) ts × MeanOf (recent s.last 3600 ts) p
Gives s ts WholeDay p = MeanOf ts p
Gives s ts Quotations p = (ts ≡ []) × Quoted s p
Gives s ts Committee p = s.committee ≡ Some p

-- no rule before this one applies
abbrev pub NoneBefore : Session → List Trade → Rule → Type 0
NoneBefore s ts rule = (r : Rule) (p : ℕ) → letter_of r < letter_of rule → Gives s ts r p → ⊥

-- the first rule that applies gives this price
pub record First (s : Session) (ts : List Trade) (rule : Rule) (p : ℕ) : Type 0 where
  pub gives : Gives s ts rule p
  pub first : NoneBefore s ts rule

abbrev pub NoneApplies : Session → List Trade → Type 0
NoneApplies s ts = (r : Rule) (p : ℕ) → Gives s ts r p → ⊥

-- the prices that a rule makes its price of
abbrev pub listed : Option ℕ → List ℕ
listed None = []
listed (Some p) = p ∷ []

abbrev pub prices : List Trade → List ℕ
prices ts = map (λ t. t.price) ts

abbrev pub both : Option ℕ → Option ℕ → List ℕ
both None ask = listed ask
both (Some bid) ask = bid ∷ listed ask

abbrev pub made_of : Session → List Trade → Rule → List ℕ
made_of s ts LastHalfHour = prices (recent s.last 1800 ts)
made_of s ts LastHour = prices (recent s.last 3600 ts)
made_of s ts WholeDay = prices ts
made_of s ts Quotations = both s.bid s.ask
made_of s ts Committee = listed s.committee

-- not below the lowest of these prices, and not above the highest
pub record Between (ps : List ℕ) (p : ℕ) : Type 0 where
  pub low : (k : ℕ) → AllByRecursion (λ q. k ≤ q) ps → k ≤ p
  pub high : (k : ℕ) → AllByRecursion (λ q. q ≤ k) ps → p ≤ k

-- an answer but for the place of a refusal
abbrev pub placeless : Priced → Result (ℕ × ℕ) (Layer × ℕ)
placeless (Ok p) = Ok p
placeless (Err f) = Err (f.0, f.1)

-- what holds of the answer to a day
pub record Stands (s : Session) (ts : List Trade) (r : Result Settlement Fault) : Type 0 where
  -- a price is that of the first rule that applies
  pub first : IfOk r (λ x. First s ts x.rule x.price.value)
  -- where the input is in range, there is no price exactly if no rule applies
  pub absent : refused_at s ts ≡ None → (is_ok r ≡ false → NoneApplies s ts) × (NoneApplies s ts → is_ok r ≡ false)
  -- the same trades in another order have the same price and letter, or are refused alike
  pub any_order : (us : List Trade) → IsPermutation ts us → placeless (settlement s us) ≡ placeless (told r)
  -- a price lies between the lowest and the highest that it is made of
  pub between : IfOk r (λ x. Between (made_of s ts x.rule) x.price.value)
