use Rattle.std.proofs.Common.{refl}
use Rattle.terms.specs.declared.call.Call.TheVariants.{Begin}
use Rattle.desk.proofs.Served.{quietly}
use Rattle.desk.proofs.desk.Desk.begin.Goals as goal

pub returns : goal.returns
returns g c = quietly g.B.Book g.R.MarginRule c.args.self.now Begin c.in_ok-check_begin.ensures.0 refl 0 refl _ refl _ refl
