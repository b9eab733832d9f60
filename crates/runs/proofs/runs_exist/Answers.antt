use Rattle.runs.proofs.Laws.{runs_exist}
use Rattle.runs.proofs.runs_exist.Goals as goal

pub returns : goal.returns
returns c = runs_exist
