-- The law of every run, and of runs that go on.
use Rattle.std.proofs.Common.{◌≡◌, List, [], ◌∷◌, Some, None, Option, Result, sym, refl, subst}
use Rattle.terms.specs.declared.call.Answer.{Answer}
use Rattle.terms.specs.declared.call.Call.{Call}
use Rattle.terms.specs.declared.fault.Fault.{Fault}
use Rattle.steps.specs.State.{State}
use Rattle.steps.specs.Steps.{Does, step, by_refusal, refusal}
use Rattle.runs.specs.Runs.{Event, event, Run, new, more}
use Rattle.runs.specs.Law.{Law, GoesOn, Plays, GoesThrough, then, RunsExist}
use Rattle.runs.proofs.Funds.{money_law}
use Rattle.runs.proofs.Trading.{trade_law}
use Rattle.runs.proofs.Turning.{notice_law}

pub law : (h : List Event) (s : State) (r : Run h s) → Law h s r
law h s r = record { money = money_law h s r; trading = trade_law h s r; notices = notice_law h s r }

pub goes_on : (s : State) (c : Call) (o : Result Answer Fault) (s' : State) → Does s c o s' → GoesOn s c o s'
goes_on s c o s' d h r = (more c o r d, law _ _ (more c o r d))

-- a run with a list of calls after it
pub through : (cs : List Call) (os : List (Result Answer Fault)) (s s' : State) (h : List Event) → Plays s cs os s' → Run h s → Run (then h cs os) s'
through [] [] s s' h p r = subst (Run h) (sym p) r
through [] (o ∷ os) s s' h p r = absurd p
through (c ∷ cs) [] s s' h p r = absurd p
through (c ∷ cs) (o ∷ os) s s' h p r = through cs os p.0 s' (event c o ∷ h) p.2 (more c o r p.1)

pub goes_through : (s : State) (cs : List Call) (os : List (Result Answer Fault)) (s' : State) → Plays s cs os s' → GoesThrough s cs os s'
goes_through s cs os s' p h r = (through cs os s s' h p r, law _ _ (through cs os s s' h p r))

-- the function does what the relation says
step_does : (s : State) (c : Call) → Does s c (step s c).0 (step s c).1
step_does s c = by_answer (refusal s c) refl
  where
    by_answer : (o : Option Fault) → refusal s c ≡ o → Does s c (by_refusal s c o).0 (by_refusal s c o).1
    by_answer None e = (e, refl, refl)
    by_answer (Some f) e = (e, refl)

pub runs_exist : RunsExist
runs_exist =
    record {
      begins = λ bs lines cost rule wide laws. new (record { unopened = refl; nobody = refl; nothing = refl; accounts = wide; rule = laws });
      goes_on = λ h s c r. more c (step s c).0 r (step_does s c);
    }
