-- Numbers in their range.
use Rattle.std.specs.Prelude.{ℕ, cond, ◌&&◌, Some, None, Option, Ok, Err, Result, nat_le}
use Rattle.terms.specs.declared.fault.Fault.{Fault}
use Rattle.terms.specs.declared.fault.Fault.TheVariants.{OutOfRange}

-- a number, if it lies from low to high
abbrev pub in_range : ℕ → ℕ → ℕ → Option ℕ
in_range low high n = cond (nat_le low n && nat_le n high) (Some n) None

-- the same, with a refusal where it does not
abbrev pub tried : ℕ → ℕ → ℕ → Result ℕ Fault
tried low high n = cond (nat_le low n && nat_le n high) (Ok n) (Err OutOfRange)
