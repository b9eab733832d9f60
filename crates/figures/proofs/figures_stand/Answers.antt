use Rattle.std.proofs.Common.{refl}
use Rattle.figures.specs.Worked.{worked}
use Rattle.figures.proofs.Figures.{figures}
use Rattle.figures.proofs.figures_stand.Goals as goal

pub returns : goal.returns
unfolding worked
returns c = record { all = figures; count = refl }
