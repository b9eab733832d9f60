use Rattle.std.proofs.Common.{length}
use Rattle.sheet.proofs.number.+read_number.Given as goal

abbrev pub decreases-read_number : goal.decreases-read_number
decreases-read_number l = length l.column.now
