-- The state of a room with its book and its margin rule.
use Rattle.std.specs.Prelude.{ℕ, ◌-◌, Bool, true, false, ◌&&◌, List, replicate, ℤ, pos, is_some, None, Option, nat_le, slice_index_or}
use Rattle.book.specs.Balances.{of_account}
use Rattle.margin.specs.Question.{Answers}
use Rattle.steps.specs.declared.Phase.{Phase}
use Rattle.steps.specs.declared.Phase.TheVariants.{Unopened}
use Rattle.steps.specs.declared.Stage.{Stage}
use Rattle.steps.specs.declared.Stage.TheVariants.{Unlisted, Open, Ended}

-- accounts 1 to 56 are customers, 57 to 63 brokers, 64 is the house; series are 1 to 24
unfoldable pub customers : ℕ
customers = 56

unfoldable pub house : ℕ
house = 64

unfoldable pub all_series : ℕ
all_series = 24

abbrev pub is_customer : ℕ → Bool
is_customer n = nat_le 1 n && nat_le n 56

abbrev pub is_broker : ℕ → Bool
is_broker n = nat_le 57 n && nat_le n 63

abbrev pub is_series : ℕ → Bool
is_series i = nat_le 1 i && nat_le i 24

-- a series: what it was listed with, the price that stands, and whether it was marked since the last notices
pub record Series : Type 0 where
  pub stage : Stage
  pub size : ℕ
  pub limit : ℕ
  pub fee : ℕ
  pub price : ℕ
  pub marked : Bool

-- a customer: its broker if it is enrolled, a position in each series, long positive, and whether it is under notice
pub record Customer : Type 0 where
  pub broker : Option ℕ
  pub positions : List ℤ
  pub notice : Bool

pub record State : Type 0 where
  pub phase : Phase
  pub customers : List Customer
  pub series : List Series
  -- the book: 64 balances, the lines left, and the lines that a posting costs
  pub balances : List ℤ
  pub lines : ℕ
  pub cost : ℕ
  -- what the margin rule answers
  pub rule : Answers

abbrev pub no_series : Series
no_series = record { stage = Unlisted; size = 0; limit = 0; fee = 0; price = 0; marked = false }

unfoldable pub no_customer : Customer
no_customer = record { broker = None; positions = replicate all_series (pos 0); notice = false }

-- a room that no call was made on, with whatever book and rule
abbrev pub new_room : List ℤ → ℕ → ℕ → Answers → State
new_room balances lines cost rule =
    record { phase = Unopened; customers = replicate customers no_customer; series = replicate all_series no_series; balances = balances; lines = lines; cost = cost; rule = rule }

-- by number, from 1
abbrev pub balance : State → ℕ → ℤ
balance s n = of_account s.balances n

abbrev pub customer : State → ℕ → Customer
customer s c = slice_index_or s.customers (c - 1) no_customer

abbrev pub series_at : State → ℕ → Series
series_at s i = slice_index_or s.series (i - 1) no_series

abbrev pub position : State → ℕ → ℕ → ℤ
position s c i = slice_index_or (customer s c).positions (i - 1) (pos 0)

abbrev pub under_notice : State → ℕ → Bool
under_notice s c = (customer s c).notice

abbrev pub enrolled : State → ℕ → Bool
enrolled s c = is_some (customer s c).broker

-- listed and not ended
abbrev pub is_open : Stage → Bool
is_open Unlisted = false
is_open Open = true
is_open Ended = false

abbrev pub ever_listed : Stage → Bool
ever_listed Unlisted = false
ever_listed Open = true
ever_listed Ended = true
