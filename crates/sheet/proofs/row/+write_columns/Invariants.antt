use Rattle.std.proofs.Common.{length}
use Rattle.sheet.proofs.row.+write_columns.Given as goal

abbrev pub decreases-write_columns : goal.decreases-write_columns
decreases-write_columns l = length l.columns.now
