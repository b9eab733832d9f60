use Rattle.std.proofs.Common.{refl, ◌∷◌, [], ap}
use Rattle.terms.specs.declared.call.Call.TheVariants.{Late}
use Rattle.steps.specs.Refusals.{first}
use Rattle.desk.proofs.Served.{quietly}
use Rattle.desk.proofs.desk.Desk.late.Goals as goal

pub returns : goal.returns
returns g c =
    let e = ap (λ o. first (o ∷ [])) c.in_ok-in_phase.ensures.0 in
    quietly g.B.Book g.R.MarginRule c.args.self.now Late e refl 0 refl _ refl _ refl
