-- The deals of a run, and the positions that they make.
use Rattle.std.specs.Prelude.{◌≡◌, ℕ, ◌+◌, ◌≤◌, Bool, true, false, cond, List, [], ◌∷◌, ◌++◌, ℤ, pos, negsuc, ◌+ℤ◌, ◌-ℤ◌, Some, None, Ok, Err, sum_by, Option, Result, ◌==◌, unsigned_abs}
use Rattle.std.specs.List.{range_with_len}
use Rattle.std.specs.Option.{option_to_list}
use Rattle.terms.specs.declared.call.Answer.{Answer}
use Rattle.terms.specs.declared.call.Call.{Call}
use Rattle.terms.specs.declared.call.Call.TheVariants as call
use Rattle.terms.specs.declared.fault.Fault.{Fault}
use Rattle.steps.specs.declared.Stage.{Stage}
use Rattle.steps.specs.declared.Stage.TheVariants.{Unlisted, Open, Ended}
use Rattle.steps.specs.State.{State, customers, is_customer, is_series, series_at, position}
use Rattle.steps.specs.Deals.{Deal, closing}
use Rattle.steps.specs.Steps.{trade_deal}
use Rattle.runs.specs.Runs.{Event, Run, new, more}

-- the deal that an accepted call makes: a trade, or a force, which is a trade of its figure at its price
abbrev pub deal_by : State → Call → Answer → Option Deal
deal_by s call.Begin a = None
deal_by s (call.Enrol c b) a = None
deal_by s (call.List size limit i price fee) a = None
deal_by s (call.Deposit n x) a = None
deal_by s (call.Withdraw n x) a = None
deal_by s (call.Trade b o i n q) a = Some (trade_deal b o i n q)
deal_by s call.Late a = None
deal_by s call.Shut a = None
deal_by s (call.Mark i q) a = None
deal_by s (call.Final i q) a = None
deal_by s (call.Force c o i offer q) a = Some (closing s c o i a.figure q)
deal_by s (call.Cover c) a = None
deal_by s call.Notices a = None

abbrev pub deal_in : State → Call → Result Answer Fault → Option Deal
deal_in s c (Ok a) = deal_by s c a
deal_in s c (Err f) = None

-- the deals of a run, the latest first
abbrev pub deals : (h : List Event) (s : State) → Run h s → List Deal
deals [] s (new n) = []
deals (e ∷ h) s' (more {s = s} c o r d) = option_to_list (deal_in s c o) ++ deals h s r

-- what of an amount is n's
abbrev pub mine : ℕ → ℕ → ℤ → ℤ
mine n k z = cond (n == k) z (pos 0)

-- contracts that n bought less those that it sold, in one deal and in many, of one series
abbrev pub side : ℕ → Deal → ℤ
side n d = mine n d.buyer (pos d.count) -ℤ mine n d.seller (pos d.count)

abbrev pub net : ℕ → ℕ → List Deal → ℤ
net n i [] = pos 0
net n i (d ∷ ds) = cond (i == d.series) (side n d) (pos 0) +ℤ net n i ds

abbrev pub ended : Stage → Bool
ended Unlisted = false
ended Open = false
ended Ended = true

-- long and short contracts of a series, over all customers
abbrev pub long_part : ℤ → ℕ
long_part (pos n) = n
long_part (negsuc n) = 0

abbrev pub short_part : ℤ → ℕ
short_part (pos n) = 0
short_part (negsuc n) = n + 1

abbrev pub longs : State → ℕ → ℕ
longs s i = sum_by (λ n. long_part (position s n i)) (range_with_len 1 customers)

abbrev pub shorts : State → ℕ → ℕ
shorts s i = sum_by (λ n. short_part (position s n i)) (range_with_len 1 customers)

pub record Traded (h : List Event) (s : State) (r : Run h s) : Type 0 where
  -- a position is contracts bought less sold, and 0 once the series has ended
  pub positions : (n i : ℕ) → is_customer n ≡ true → is_series i ≡ true → position s n i ≡ cond (ended (series_at s i).stage) (pos 0) (net n i (deals h s r))
  -- in each series longs equal shorts
  pub level : (i : ℕ) → is_series i ≡ true → longs s i ≡ shorts s i
  -- a position stays within its series' limit
  pub within : (n i : ℕ) → is_customer n ≡ true → is_series i ≡ true → unsigned_abs (position s n i) ≤ (series_at s i).limit

abbrev pub TradeLaw : Type 0
TradeLaw = (h : List Event) (s : State) (r : Run h s) → Traded h s r
