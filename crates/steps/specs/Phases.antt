-- The numbers of the phases.
use Rattle.std.specs.Prelude.{ℕ}
use Rattle.steps.specs.declared.Phase.{Phase}
use Rattle.steps.specs.declared.Phase.TheVariants.{Unopened, Session, Late, Shut}

abbrev pub phase_number : Phase → ℕ
phase_number Unopened = 0
phase_number Session = 1
phase_number Late = 2
phase_number Shut = 3
