use Rattle.std.proofs.Common.{arith}
use Rattle.std.proofs.lemmas.Grind.{common_steps}
use Rattle.sheet.proofs.Columns.{reads_number}
use Rattle.sheet.proofs.number.+read_number.Goals as goal

pub returns-in_default-clause-writing : goal.returns-in_default-clause-writing
returns-in_default-clause-writing t c = reads_number c.args.column.now c.word.result (grind (arith, common_steps))
