use Rattle.std.proofs.Common.{◌≡◌, ◌+◌, map, drop}
use Rattle.steps.specs.Refusals.{unmarked}
use Rattle.tables.specs.Views.{series_of}
use Rattle.desk.proofs.checks.check_marks.Given as goal

abbrev pub invariant-loop-i : goal.invariant-loop-i
invariant-loop-i l = unmarked (l.i + 1) (drop l.i (map series_of l.all)) ≡ unmarked 1 (map series_of l.all)
