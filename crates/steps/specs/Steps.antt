-- One step: what a call posts and changes, what it answers, and who is lifted after it.
use Rattle.std.specs.Prelude.{◌≡◌, ℕ, ◌-◌, ◌*◌, min, Bool, true, false, cond, not, ◌&&◌, ◌||◌, List, [], ◌∷◌, ◌++◌, map, ℤ, pos, ◌-ℤ◌, ◌*ℤ◌, neg_ℤ, Some, None, Ok, Err, count_by, Option, Result, ◌==◌, slice_set, unsigned_abs}
use Rattle.std.specs.List.{range_with_len}
use Rattle.terms.specs.declared.call.Call.{Call}
use Rattle.terms.specs.declared.call.Call.TheVariants as call
use Rattle.terms.specs.declared.call.Answer.{Answer}
use Rattle.terms.specs.declared.fault.Fault.{Fault}
use Rattle.book.specs.Postings.{added, postings}
use Rattle.steps.specs.declared.Phase.{Phase}
use Rattle.steps.specs.declared.Phase.TheVariants.{Session, Late, Shut}
use Rattle.steps.specs.declared.Stage.TheVariants.{Open, Ended}
use Rattle.steps.specs.State.{State, Series, Customer, customers, house, is_customer, customer, series_at, position, balance, under_notice}
use Rattle.steps.specs.Margins.{at_initial, below_minimum}
use Rattle.steps.specs.Deals.{Deal, deal_post, deal_moves, with_positions, forced, force_deal}
use Rattle.steps.specs.Refusals.{first, room_refusals, book_refuses, debt, broker_of}

-- a deal of a trade
abbrev pub trade_deal : ℕ → ℕ → ℕ → ℕ → ℕ → Deal
trade_deal b o i n q = record { buyer = b; seller = o; series = i; count = n; price = q }

-- an amount for one account
abbrev pub alone : ℕ → ℤ → ℕ → ℤ
alone k a n = cond (n == k) a (pos 0)

-- a holder's position at a new price
abbrev pub mark_post : State → ℕ → ℕ → ℕ → ℤ
mark_post s i q n = cond (is_customer n) (position s n i *ℤ pos (series_at s i).size *ℤ (pos q -ℤ pos (series_at s i).price)) (pos 0)

-- what cover moves: the smallest of the broker's balance, the debt and 10^18 − 1
abbrev pub covered : State → ℕ → ℕ
covered s c = min (unsigned_abs (balance s (broker_of s c))) (min (debt (balance s c)) 999999999999999999)

-- what a call posts to account n
abbrev pub post : State → Call → ℕ → ℤ
post s call.Begin n = pos 0
post s (call.Enrol c b) n = pos 0
post s (call.List size limit i price fee) n = pos 0
post s (call.Deposit k a) n = alone k (pos a) n
post s (call.Withdraw k a) n = alone k (neg_ℤ (pos a)) n
post s (call.Trade b o i m q) n = deal_post s (trade_deal b o i m q) n
post s call.Late n = pos 0
post s call.Shut n = pos 0
post s (call.Mark i q) n = mark_post s i q n
post s (call.Final i q) n = mark_post s i q n
post s (call.Force c o i offer q) n = deal_post s (force_deal s c o i offer q) n
post s (call.Cover c) n = alone c (pos (covered s c)) n -ℤ alone (broker_of s c) (pos (covered s c)) n
post s call.Notices n = pos 0

-- for each of the accounts
unfoldable pub posts : State → Call → List ℤ
posts s c = map (post s c) (range_with_len 1 house)

-- the first refusal: the room's own, then the book's for all postings
abbrev pub refusal : State → Call → Option Fault
refusal s c = first (room_refusals s c ++ (book_refuses s (posts s c) ∷ []))

-- what a call changes
abbrev pub phase_after : State → Call → Phase
phase_after s call.Begin = Session
phase_after s (call.Enrol c b) = s.phase
phase_after s (call.List size limit i price fee) = s.phase
phase_after s (call.Deposit n a) = s.phase
phase_after s (call.Withdraw n a) = s.phase
phase_after s (call.Trade b o i n q) = s.phase
phase_after s call.Late = Late
phase_after s call.Shut = Shut
phase_after s (call.Mark i q) = s.phase
phase_after s (call.Final i q) = s.phase
phase_after s (call.Force c o i offer q) = s.phase
phase_after s (call.Cover c) = s.phase
phase_after s call.Notices = Session

abbrev pub settled_at : Series → ℕ → Series
settled_at x q = record { stage = x.stage; size = x.size; limit = x.limit; fee = x.fee; price = q; marked = true }

abbrev pub ended_at : Series → ℕ → Series
ended_at x q = record { stage = Ended; size = x.size; limit = x.limit; fee = x.fee; price = q; marked = true }

abbrev pub cleared : Series → Series
cleared x = record { stage = x.stage; size = x.size; limit = x.limit; fee = x.fee; price = x.price; marked = false }

abbrev pub series_after : State → Call → List Series
series_after s call.Begin = s.series
series_after s (call.Enrol c b) = s.series
series_after s (call.List size limit i price fee) = slice_set s.series (i - 1) (record { stage = Open; size = size; limit = limit; fee = fee; price = price; marked = false })
series_after s (call.Deposit n a) = s.series
series_after s (call.Withdraw n a) = s.series
series_after s (call.Trade b o i n q) = s.series
series_after s call.Late = s.series
series_after s call.Shut = s.series
series_after s (call.Mark i q) = slice_set s.series (i - 1) (settled_at (series_at s i) q)
series_after s (call.Final i q) = slice_set s.series (i - 1) (ended_at (series_at s i) q)
series_after s (call.Force c o i offer q) = s.series
series_after s (call.Cover c) = s.series
series_after s call.Notices = map cleared s.series

abbrev pub noted : Customer → Bool → Customer
noted c b = record { broker = c.broker; positions = c.positions; notice = b }

abbrev pub under_broker : Customer → ℕ → Customer
under_broker c b = record { broker = Some b; positions = c.positions; notice = c.notice }

-- who comes under notice
abbrev pub newly_called : State → Call → ℕ → Bool
newly_called s call.Begin n = false
newly_called s (call.Enrol c b) n = false
newly_called s (call.List size limit i price fee) n = false
newly_called s (call.Deposit k a) n = false
newly_called s (call.Withdraw k a) n = false
newly_called s (call.Trade b o i m q) n = false
newly_called s call.Late n = false
newly_called s call.Shut n = false
newly_called s (call.Mark i q) n = false
newly_called s (call.Final i q) n = false
newly_called s (call.Force c o i offer q) n = false
newly_called s (call.Cover c) n = false
newly_called s call.Notices n = not (under_notice s n) && below_minimum s n

abbrev pub customers_after : State → Call → List Customer
customers_after s call.Begin = s.customers
customers_after s (call.Enrol c b) = slice_set s.customers (c - 1) (under_broker (customer s c) b)
customers_after s (call.List size limit i price fee) = s.customers
customers_after s (call.Deposit n a) = s.customers
customers_after s (call.Withdraw n a) = s.customers
customers_after s (call.Trade b o i n q) = deal_moves s (trade_deal b o i n q)
customers_after s call.Late = s.customers
customers_after s call.Shut = s.customers
customers_after s (call.Mark i q) = s.customers
customers_after s (call.Final i q) = map (λ c. with_positions c (slice_set c.positions (i - 1) (pos 0))) s.customers
customers_after s (call.Force c o i offer q) = deal_moves s (force_deal s c o i offer q)
customers_after s (call.Cover c) = s.customers
customers_after s call.Notices = map (λ n. noted (customer s n) (under_notice s n || newly_called s call.Notices n)) (range_with_len 1 customers)

-- the state before anybody is lifted
abbrev pub moved : State → Call → State
moved s c =
    record {
      phase = phase_after s c;
      customers = customers_after s c;
      series = series_after s c;
      balances = added s.balances (posts s c);
      lines = s.lines - s.cost * postings (posts s c);
      cost = s.cost;
      rule = s.rule;
    }

-- after every accepted call each customer under notice that has its initial margin is lifted
abbrev pub freed : State → ℕ → Bool
freed s n = under_notice s n && at_initial s n

abbrev pub lift : State → State
lift s =
    record {
      phase = s.phase;
      customers = map (λ n. noted (customer s n) (under_notice s n && not (at_initial s n))) (range_with_len 1 customers);
      series = s.series;
      balances = s.balances;
      lines = s.lines;
      cost = s.cost;
      rule = s.rule;
    }

abbrev pub next : State → Call → State
next s c = lift (moved s c)

-- contracts for force, rials for cover, the newly called for notices
abbrev pub figure : State → Call → ℕ
figure s call.Begin = 0
figure s (call.Enrol c b) = 0
figure s (call.List size limit i price fee) = 0
figure s (call.Deposit n a) = 0
figure s (call.Withdraw n a) = 0
figure s (call.Trade b o i n q) = 0
figure s call.Late = 0
figure s call.Shut = 0
figure s (call.Mark i q) = 0
figure s (call.Final i q) = 0
figure s (call.Force c o i offer q) = forced s c i offer q
figure s (call.Cover c) = covered s c
figure s call.Notices = count_by (newly_called s call.Notices) (range_with_len 1 customers)

abbrev pub answer : State → Call → Answer
answer s c = record { figure = figure s c; lifted = count_by (freed (moved s c)) (range_with_len 1 customers) }

-- one call: its answer and the state after it
abbrev pub Does : State → Call → Result Answer Fault → State → Type 0
Does s c (Ok a) s' = (refusal s c ≡ None) × (a ≡ answer s c) × (s' ≡ next s c)
Does s c (Err f) s' = (refusal s c ≡ Some f) × (s' ≡ s)

-- the same as a function
abbrev pub by_refusal : State → Call → Option Fault → Result Answer Fault × State
by_refusal s c None = (Ok (answer s c), next s c)
by_refusal s c (Some f) = (Err f, s)

abbrev pub step : State → Call → Result Answer Fault × State
step s c = by_refusal s c (refusal s c)
