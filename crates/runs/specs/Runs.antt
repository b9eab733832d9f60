-- A run: calls on a new room, each with its answer, refused ones too.
use Rattle.std.specs.Prelude.{◌≡◌, List, [], ◌∷◌, length, replicate, Result}
use Rattle.terms.specs.declared.call.Answer.{Answer}
use Rattle.terms.specs.declared.call.Call.{Call}
use Rattle.terms.specs.declared.fault.Fault.{Fault}
use Rattle.margin.specs.Laws.{Lawful}
use Rattle.steps.specs.declared.Phase.TheVariants.{Unopened}
use Rattle.steps.specs.State.{State, customers, house, all_series, no_customer, no_series}
use Rattle.steps.specs.Steps.{Does}

-- a call and its answer
pub record Event : Type 0 where
  pub call : Call
  pub outcome : Result Answer Fault

abbrev pub event : Call → Result Answer Fault → Event
event c o = record { call = c; outcome = o }

-- unopened, nobody enrolled or under notice, nothing listed; the book may hold anything, and the rule keeps its laws
pub record New (s : State) : Type 0 where
  pub unopened : s.phase ≡ Unopened
  pub nobody : s.customers ≡ replicate customers no_customer
  pub nothing : s.series ≡ replicate all_series no_series
  pub accounts : length s.balances ≡ house
  pub rule : Lawful s.rule

-- the events that led from a new room to a state, the latest first
pub data Run : List Event → State → Type 0 where
  new : {s : State} → New s → Run [] s
  more : {h : List Event} {s s' : State} (c : Call) (o : Result Answer Fault) → Run h s → Does s c o s' → Run (event c o ∷ h) s'

-- what holds of each call of a run
abbrev pub Each : (State → Call → Result Answer Fault → State → Type 0) → (h : List Event) (s : State) → Run h s → Type 0
Each P [] s (new n) = Unit {0}
Each P (e ∷ h) s' (more {s = s} c o r d) = Each P h s r × P s c o s'
