-- The whole law of a run, and how it goes on.
use Rattle.std.specs.Prelude.{◌≡◌, ℕ, List, [], ◌∷◌, length, ℤ, Result}
use Rattle.terms.specs.declared.call.Answer.{Answer}
use Rattle.terms.specs.declared.call.Call.{Call}
use Rattle.terms.specs.declared.fault.Fault.{Fault}
use Rattle.margin.specs.Question.{Answers}
use Rattle.margin.specs.Laws.{Lawful}
use Rattle.steps.specs.State.{State, house, new_room}
use Rattle.steps.specs.Steps.{Does, step}
use Rattle.runs.specs.Runs.{Event, event, Run}
use Rattle.runs.specs.Money.{Funded}
use Rattle.runs.specs.Trading.{Traded}
use Rattle.runs.specs.Notices.{Noticed}

pub record Law (h : List Event) (s : State) (r : Run h s) : Type 0 where
  -- what every balance is made of
  pub money : Funded h s r
  -- what every position is
  pub trading : Traded h s r
  -- who is under notice
  pub notices : Noticed h s r

-- of whatever run led to s: the call goes on with it to s', and the law stands of the whole
abbrev pub GoesOn : State → Call → Result Answer Fault → State → Type 0
GoesOn s c o s' = (h : List Event) → Run h s → (r : Run (event c o ∷ h) s') × Law (event c o ∷ h) s' r

-- calls made one after the other, each with its answer
abbrev pub Plays : State → List Call → List (Result Answer Fault) → State → Type 0
Plays s [] [] s' = s' ≡ s
Plays s [] (o ∷ os) s' = ⊥
Plays s (c ∷ cs) [] s' = ⊥
Plays s (c ∷ cs) (o ∷ os) s' = (m : State) × Does s c o m × Plays m cs os s'

-- a run with these calls and answers after it, the latest first
abbrev pub then : List Event → List Call → List (Result Answer Fault) → List Event
then h [] os = h
then h (c ∷ cs) [] = h
then h (c ∷ cs) (o ∷ os) = then (event c o ∷ h) cs os

-- of whatever run led to s: all the calls go on with it to s', and the law stands of the whole
abbrev pub GoesThrough : State → List Call → List (Result Answer Fault) → State → Type 0
GoesThrough s cs os s' = (h : List Event) → Run h s → (r : Run (then h cs os) s') × Law (then h cs os) s' r

-- there are runs: over any book and any lawful rule a new room begins one, and every call goes on with it
pub record RunsExist : Type 0 where
  pub begins : (bs : List ℤ) (lines cost : ℕ) (rule : Answers) → length bs ≡ house → Lawful rule → Run [] (new_room bs lines cost rule)
  pub goes_on : (h : List Event) (s : State) (c : Call) → Run h s → Run (event c (step s c).0 ∷ h) (step s c).1
