use Rattle.runs.proofs.Trading.{trade_law}
use Rattle.runs.proofs.positions_stand.Goals as goal

pub returns : goal.returns
returns c = trade_law
