use Rattle.std.proofs.Common.{arith}
use Rattle.steps.specs.Steps.{cleared}
use Rattle.tables.specs.Views.{series_of}
use Rattle.tables.proofs.Rows.{each_more}
use Rattle.tables.proofs.series_table.SeriesTable.clear_marks.Goals as goal

pub loop-series-preserved : goal.loop-series-preserved
loop-series-preserved c = each_more series_of c.args.self.now.rows c.loop-series.series-items cleared _ c.series-item.result _ (omega arith) (omega arith) c.loop-series.invariant c.series-item.is c.clear.ensures
