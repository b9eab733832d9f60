use Rattle.runs.proofs.Funds.{money_law}
use Rattle.runs.proofs.balances_stand.Goals as goal

pub returns : goal.returns
returns c = money_law
