use Rattle.runs.proofs.Turning.{notice_law}
use Rattle.runs.proofs.notices_stand.Goals as goal

pub returns : goal.returns
returns c = notice_law
