-- One call, before anybody is lifted.
use Rattle.std.specs.Prelude.{◌≡◌, ℕ, Some, None, Ok, Err, Option, Result}
use Rattle.terms.specs.declared.call.Call.{Call}
use Rattle.terms.specs.declared.fault.Fault.{Fault}
use Rattle.steps.specs.State.{State}
use Rattle.steps.specs.Steps.{refusal, figure, moved}

-- a test: refused with this fault, or granted with a value of which P holds
abbrev pub Granted : {T : Type 0} → Result T Fault → Option Fault → (T → Type 0) → Type 0
Granted (Ok x) o P = (o ≡ None) × P x
Granted (Err f) o P = o ≡ Some f

-- a call: refused and nothing changed, or its figure and the state moved on
abbrev pub Moves : State → Call → Result ℕ Fault → State → Type 0
Moves s c (Ok n) s' = (refusal s c ≡ None) × (n ≡ figure s c) × (s' ≡ moved s c)
Moves s c (Err f) s' = (refusal s c ≡ Some f) × (s' ≡ s)
