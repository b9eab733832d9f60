use Rattle.std.proofs.Common.{arith}
use Rattle.sheet.proofs.Pieces.{cut_whole}
use Rattle.sheet.proofs.cuts.count_lines.Goals as goal

pub returns-clause-cut : goal.returns-clause-cut
returns-clause-cut c = cut_whole _ c.args.sheet.now (omega arith) (omega arith)
