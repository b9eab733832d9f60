-- All figures at once, as the checker computes them.
use Rattle.std.proofs.Common.{◌≡◌, List, [], ◌∷◌, map, refl, ap}
use Rattle.std.specs.List.{AllByRecursion}
use Rattle.steps.specs.State.{customers, house, all_series, no_customer}
use Rattle.steps.specs.Deals.{enough, forced}
use Rattle.steps.specs.Steps.{posts}
use Rattle.figures.specs.Worked.{Reply, Figure, Stands, Figures, reply, worked}

computed : map (λ f. reply f.asked) worked ≡ map (λ f. f.written) worked
unfolding customers house all_series no_customer enough forced posts worked
computed = refl

abbrev head : Reply → List Reply → Reply
head d [] = d
head d (x ∷ xs) = x

abbrev tail : List Reply → List Reply
tail [] = []
tail (x ∷ xs) = xs

each : (fs : List Figure) → map (λ f. reply f.asked) fs ≡ map (λ f. f.written) fs → AllByRecursion Stands fs
each [] e = tt
each (f ∷ fs) e = (ap (head f.written) e, each fs (ap tail e))

pub figures : Figures
figures = each worked computed
