-- The two questions, which change nothing.
use Rattle.std.specs.Prelude.{ℕ, cond, [], ◌∷◌, ℤ, pos, ◌-ℤ◌, Some, None, Ok, Err, Option, Result}
use Rattle.terms.specs.declared.fault.Fault.{Fault}
use Rattle.steps.specs.declared.Standing.{Standing}
use Rattle.steps.specs.State.{State, balance, position, under_notice}
use Rattle.steps.specs.Margins.{margins_of}
use Rattle.steps.specs.Refusals.{first, not_customer, not_series, stranger}

abbrev pub unless_refused : {T : Type 0} → Option Fault → T → Result T Fault
unless_refused (Some f) x = Err f
unless_refused None x = Ok x

-- what is owed to the initial margin: no amount at all for a customer that is not under notice
abbrev pub owed : State → ℕ → Option ℤ
owed s c = cond (under_notice s c) (Some (pos (margins_of s c).0 -ℤ balance s c)) None

abbrev pub standing : State → ℕ → Result Standing Fault
standing s c =
    unless_refused (first (not_customer c ∷ stranger s c ∷ []))
    (record { balance = balance s c; initial = (margins_of s c).0; minimum = (margins_of s c).1; owed = owed s c })

abbrev pub position_of : State → ℕ → ℕ → Result ℤ Fault
position_of s c i = unless_refused (first (not_customer c ∷ not_series i ∷ stranger s c ∷ [])) (position s c i)
