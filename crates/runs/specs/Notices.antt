-- The law of notices.
use Rattle.std.specs.Prelude.{◌≡◌, ℕ, ◌+◌, ◌≤◌, true, false, List, [], ◌∷◌, ℤ, pos, negsuc, neg_ℤ, is_ok, Ok, Err, count_by, Result}
use Rattle.std.specs.List.{range_with_len}
use Rattle.terms.specs.declared.call.Answer.{Answer}
use Rattle.terms.specs.declared.call.Call.{Call}
use Rattle.terms.specs.declared.call.Call.TheVariants as call
use Rattle.terms.specs.declared.fault.Fault.{Fault}
use Rattle.steps.specs.State.{State, customers, is_customer, position, under_notice}
use Rattle.steps.specs.Margins.{at_initial, below_minimum}
use Rattle.runs.specs.Runs.{Event, Run, Each}

-- a position that neither grew nor changed its side
abbrev pub Shrunk : ℤ → ℤ → Type 0
Shrunk (pos n) after = (k : ℕ) × (after ≡ pos k) × (k ≤ n)
Shrunk (negsuc n) after = (k : ℕ) × (after ≡ neg_ℤ (pos k)) × (k ≤ n + 1)

-- a customer and one call
pub record Turns (s : State) (c : Call) (o : Result Answer Fault) (s' : State) : Type 0 where
  -- comes under notice exactly when an accepted notices finds it, not yet so, below its minimum margin
  pub comes : (n : ℕ) → is_customer n ≡ true → under_notice s n ≡ false → under_notice s' n ≡ true → (is_ok o ≡ true) × (c ≡ call.Notices) × (below_minimum s n ≡ true)
  pub called : (n : ℕ) → is_customer n ≡ true → under_notice s n ≡ false → is_ok o ≡ true → c ≡ call.Notices → below_minimum s n ≡ true → under_notice s' n ≡ true
  -- leaves with the first accepted call that ends with it at or above its initial margin, and not otherwise
  pub leaves : (n : ℕ) → is_customer n ≡ true → under_notice s n ≡ true → under_notice s' n ≡ false → (is_ok o ≡ true) × (at_initial s' n ≡ true)
  pub lifted : (n : ℕ) → is_customer n ≡ true → is_ok o ≡ true → at_initial s' n ≡ true → under_notice s' n ≡ false
  -- while it is under notice none of its positions grows or changes its side
  pub shrinks : (n i : ℕ) → is_customer n ≡ true → under_notice s n ≡ true → Shrunk (position s n i) (position s' n i)

-- over all answers
abbrev pub newly_of : Call → Answer → ℕ
newly_of call.Begin a = 0
newly_of (call.Enrol c b) a = 0
newly_of (call.List size limit i price fee) a = 0
newly_of (call.Deposit n x) a = 0
newly_of (call.Withdraw n x) a = 0
newly_of (call.Trade b o i n q) a = 0
newly_of call.Late a = 0
newly_of call.Shut a = 0
newly_of (call.Mark i q) a = 0
newly_of (call.Final i q) a = 0
newly_of (call.Force c o i n q) a = 0
newly_of (call.Cover c) a = 0
newly_of call.Notices a = a.figure

abbrev pub newly_in : Call → Result Answer Fault → ℕ
newly_in c (Ok a) = newly_of c a
newly_in c (Err f) = 0

abbrev pub lifted_in : Result Answer Fault → ℕ
lifted_in (Ok a) = a.lifted
lifted_in (Err f) = 0

abbrev pub newly_called : List Event → ℕ
newly_called [] = 0
newly_called (e ∷ h) = newly_in e.call e.outcome + newly_called h

abbrev pub all_lifted : List Event → ℕ
all_lifted [] = 0
all_lifted (e ∷ h) = lifted_in e.outcome + all_lifted h

abbrev pub still_under : State → ℕ
still_under s = count_by (under_notice s) (range_with_len 1 customers)

pub record Noticed (h : List Event) (s : State) (r : Run h s) : Type 0 where
  pub each : Each Turns h s r
  -- newly called = lifted + still under notice
  pub adds_up : newly_called h ≡ all_lifted h + still_under s

abbrev pub NoticeLaw : Type 0
NoticeLaw = (h : List Event) (s : State) (r : Run h s) → Noticed h s r
