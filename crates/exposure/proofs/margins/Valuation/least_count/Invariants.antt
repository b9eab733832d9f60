use Rattle.std.proofs.Common.{◌≡◌, ◌-◌, ◌≤◌, max}
use Rattle.steps.specs.Deals.{least, first_from}
use Rattle.tables.specs.Views.{all_series_of}
use Rattle.exposure.specs.Forced.{suffices}
use Rattle.exposure.proofs.margins.Valuation.least_count.Given as goal

abbrev pub invariant-loop-n : goal.invariant-loop-n
invariant-loop-n g l =
    let p = suffices (g.R.MarginRule.asked l.fn.self.rule.now) (all_series_of l.fn.self.series.now) l.fn.positions.held l.fn.series.value l.fn.balance l.fn.price.value in
    record { so_far : least p l.most ≡ first_from p l.n (l.most - l.n); within : l.n ≤ max l.most 1 }
