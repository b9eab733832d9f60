use Rattle.std.proofs.Common.{◌≡◌, ◌++◌, map, take, drop}
use Rattle.steps.specs.Steps.{cleared}
use Rattle.tables.specs.Views.{series_of}
use Rattle.tables.proofs.series_table.SeriesTable.clear_marks.Given as goal

abbrev pub invariant-loop-series : goal.invariant-loop-series
invariant-loop-series l =
    map series_of l.series-items ≡ map cleared (take l.series-index (map series_of l.initial.series-items)) ++ drop l.series-index (map series_of l.initial.series-items)
