use Rattle.std.proofs.Common.{◌≡◌, ◌-◌}
use Rattle.steps.specs.Margins.{asks}
use Rattle.tables.specs.Views.{all_series_of}
use Rattle.exposure.proofs.margins.Valuation.margins.Given as goal

abbrev pub invariant-loop-n : goal.invariant-loop-n
invariant-loop-n g l = l.all ≡ asks (g.R.MarginRule.asked l.self.rule.now) (all_series_of l.self.series.now) l.positions.held (l.n - 1)
