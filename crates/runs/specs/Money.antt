-- What every balance is made of.
use Rattle.std.specs.Prelude.{◌≡◌, ℕ, Bool, true, false, ◌||◌, List, [], ◌∷◌, ℤ, pos, ◌+ℤ◌, ◌-ℤ◌, Ok, Err, Result}
use Rattle.terms.specs.declared.call.Answer.{Answer}
use Rattle.terms.specs.declared.call.Call.{Call}
use Rattle.terms.specs.declared.call.Call.TheVariants as call
use Rattle.terms.specs.declared.fault.Fault.{Fault}
use Rattle.book.specs.Balances.{total}
use Rattle.steps.specs.State.{State, is_customer, series_at, balance}
use Rattle.steps.specs.Deals.{Deal, gain, fees}
use Rattle.runs.specs.Runs.{Event, Run}
use Rattle.runs.specs.Trading.{mine, deals}

-- money that an accepted call brings in, takes out or covers with
pub data Cash : Type 0 where
  none : Cash
  into : ℕ → ℕ → Cash
  out : ℕ → ℕ → Cash
  cover : ℕ → ℕ → Cash

abbrev pub cash : Call → Answer → Cash
cash call.Begin a = none
cash (call.Enrol c b) a = none
cash (call.List size limit i price fee) a = none
cash (call.Deposit n x) a = into n x
cash (call.Withdraw n x) a = out n x
cash (call.Trade b o i n q) a = none
cash call.Late a = none
cash call.Shut a = none
cash (call.Mark i q) a = none
cash (call.Final i q) a = none
cash (call.Force c o i offer q) a = none
cash (call.Cover c) a = cover c a.figure
cash call.Notices a = none

abbrev pub cash_in : Call → Result Answer Fault → Cash
cash_in c (Ok a) = cash c a
cash_in c (Err f) = none

-- of account n
abbrev pub deposited : ℕ → Cash → ℤ
deposited n none = pos 0
deposited n (into k x) = mine n k (pos x)
deposited n (out k x) = pos 0
deposited n (cover k x) = pos 0

abbrev pub withdrawn : ℕ → Cash → ℤ
withdrawn n none = pos 0
withdrawn n (into k x) = pos 0
withdrawn n (out k x) = mine n k (pos x)
withdrawn n (cover k x) = pos 0

abbrev pub received : ℕ → Cash → ℤ
received n none = pos 0
received n (into k x) = pos 0
received n (out k x) = pos 0
received n (cover k x) = mine n k (pos x)

-- of whatever account
abbrev pub paid_in : Cash → ℤ
paid_in none = pos 0
paid_in (into k x) = pos x
paid_in (out k x) = pos 0
paid_in (cover k x) = pos 0

abbrev pub paid_out : Cash → ℤ
paid_out none = pos 0
paid_out (into k x) = pos 0
paid_out (out k x) = pos x
paid_out (cover k x) = pos 0

-- over the events of a run
abbrev pub summed : (Cash → ℤ) → List Event → ℤ
summed f [] = pos 0
summed f (e ∷ h) = f (cash_in e.call e.outcome) +ℤ summed f h

-- over its deals
abbrev pub over_deals : (Deal → ℤ) → List Deal → ℤ
over_deals f [] = pos 0
over_deals f (d ∷ ds) = f d +ℤ over_deals f ds

-- the fees of a deal, and its gain by the price that stands now: a buyer's, and a seller's, which is its negative
abbrev pub fee_of : State → ℕ → Deal → ℤ
fee_of s n d =
    mine n d.buyer (fees (series_at s d.series) d.count) +ℤ mine n d.seller (fees (series_at s d.series) d.count)

abbrev pub gain_of : State → ℕ → Deal → ℤ
gain_of s n d =
    mine n d.buyer (gain (series_at s d.series) d.count d.price) -ℤ mine n d.seller (gain (series_at s d.series) d.count d.price)

-- deposits − withdrawals − fees + cover received + gains
abbrev pub worth : State → ℕ → List Event → List Deal → ℤ
worth s n h ds = summed (deposited n) h -ℤ summed (withdrawn n) h -ℤ over_deals (fee_of s n) ds +ℤ summed (received n) h +ℤ over_deals (gain_of s n) ds

-- begin was accepted
abbrev pub is_begin : Call → Result Answer Fault → Bool
is_begin call.Begin (Ok a) = true
is_begin call.Begin (Err f) = false
is_begin (call.Enrol c b) o = false
is_begin (call.List size limit i price fee) o = false
is_begin (call.Deposit n x) o = false
is_begin (call.Withdraw n x) o = false
is_begin (call.Trade b s i n q) o = false
is_begin call.Late o = false
is_begin call.Shut o = false
is_begin (call.Mark i q) o = false
is_begin (call.Final i q) o = false
is_begin (call.Force c s i offer q) o = false
is_begin (call.Cover c) o = false
is_begin call.Notices o = false

abbrev pub begun : List Event → Bool
begun [] = false
begun (e ∷ h) = is_begin e.call e.outcome || begun h

pub record Funded (h : List Event) (s : State) (r : Run h s) : Type 0 where
  -- a customer's balance is its deposits − withdrawals − fees + cover received + gains, at the prices that stand now
  pub balances : begun h ≡ true → (n : ℕ) → is_customer n ≡ true → balance s n ≡ worth s n h (deals h s r)
  -- all balances add up to all deposits less all withdrawals
  pub whole : begun h ≡ true → total s.balances ≡ summed paid_in h -ℤ summed paid_out h

abbrev pub MoneyLaw : Type 0
MoneyLaw = (h : List Event) (s : State) (r : Run h s) → Funded h s r
