-- That the answers fit the columns in which they are printed.
use Rattle.std.specs.Prelude.{◌≡◌, ℕ, ◌≤◌, true, List, length, Err, Result}
use Rattle.terms.specs.declared.call.Answer.{Answer}
use Rattle.terms.specs.declared.call.Call.{Call}
use Rattle.terms.specs.declared.fault.Fault.{Fault}
use Rattle.terms.specs.declared.fault.Fault.TheVariants.{SheetSize}
use Rattle.steps.specs.State.{State}
use Rattle.steps.specs.Refusals.{broker_of}
use Rattle.steps.specs.Steps.{Does}
use Rattle.sheet.specs.Kinds.{numbers_in}
use Rattle.sheet.specs.Lines.{line_said, fitting as fitting_numbers}
use Rattle.sheet.specs.Printed.{answered, fitting}

-- what is known of every room: 64 balances, 24 series, and brokers of 57 to 63 only
pub record RangedState (s : State) : Type 0 where
  pub balances : length s.balances ≡ 64
  pub series : length s.series ≡ 24
  -- 0 for a customer that has none
  pub brokers : (n : ℕ) → broker_of s n ≤ 63

-- the answer to a call whose numbers fit their fields
abbrev pub AnswersFit : Type 0
AnswersFit = (s s' : State) (c : Call) (o : Result Answer Fault) (line : ℕ) → RangedState s → fitting_numbers (numbers_in c) ≡ true → Does s c o s' → line ≤ 1000 → fitting (answered line o) ≡ true

-- the answer to a line that is not read
abbrev pub UnreadFit : Type 0
UnreadFit = (text : List ℕ) (f : Fault) (line : ℕ) → line_said text ≡ Err f → line ≤ 1000 → fitting (answered line (Err f)) ≡ true

-- the answer to a sheet that is refused whole
abbrev pub RefusedFits : Type 0
RefusedFits = fitting (answered 0 (Err SheetSize)) ≡ true
