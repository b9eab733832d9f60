-- The settings of the rules, and their refusal.
use Rattle.std.specs.Prelude.{ℕ, Bool, cond, Ok, Err, Result}
use Rattle.std.specs.Result.{result_map_both}
use Rattle.terms.specs.declared.fault.Fault.{Fault}
use Rattle.terms.specs.declared.fault.Fault.TheVariants.{OutOfRange}

-- the setting where its numbers are in range, else a refusal
abbrev pub setting : {S : Type 0} → Bool → S → Result S Fault
setting ok s = cond ok (Ok s) (Err OutOfRange)

-- the two numbers of what was made, if it was
abbrev pub numbers_of : {S : Type 0} → (S → ℕ × ℕ) → Result S Fault → Result (ℕ × ℕ) Fault
numbers_of f = result_map_both f (λ fault. fault)
