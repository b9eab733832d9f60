-- A customer that is called.
use Rattle.std.proofs.Common.{◌≡◌, Bool, true, false, cond, not, ◌&&◌, ◌||◌, refl}
use Rattle.steps.specs.State.{Customer}
use Rattle.steps.specs.Steps.{noted}

pub called_one : (c : Customer) (a : Bool) → cond (not c.notice && a) (noted c true) c ≡ noted c (c.notice || (not c.notice && a))
called_one c a = by c.notice a
  where
    by : (b a : Bool) → cond (not b && a) (noted c true) (noted c b) ≡ noted c (b || (not b && a))
    by true a = refl
    by false true = refl
    by false false = refl
