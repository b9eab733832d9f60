use Rattle.std.proofs.Common.{◌≡◌, ◌+◌, take, drop}
use Rattle.price.specs.Prices.{first_unfit}
use Rattle.price.specs.Tally.{SumsOf}
use Rattle.price.proofs.Turns.{Few}
use Rattle.price.proofs.tally.tally.Given as goal

abbrev pub invariant-loop-i : goal.invariant-loop-i
invariant-loop-i l =
    (first_unfit l.last.value (l.i + 1) (drop l.i l.trades) ≡ first_unfit l.last.value 1 l.trades)
    × SumsOf l.last.value (take l.i l.trades) l.sums
    × Few l.i l.sums
