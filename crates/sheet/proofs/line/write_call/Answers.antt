use Rattle.std.proofs.Common.{arith}
use Rattle.sheet.proofs.Lines.{line_written_of, written_read}
use Rattle.sheet.proofs.line.write_call.Goals as goal

pub returns-clause-back : goal.returns-clause-back
returns-clause-back c = written_read c.args.call c.row.result (grind (arith, line_written_of))
