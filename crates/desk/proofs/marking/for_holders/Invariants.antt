use Rattle.std.proofs.Common.{◌-◌, get_or, pos, ◌-ℤ◌, ◌*ℤ◌}
use Rattle.tables.specs.Views.{customer_at, series_of}
use Rattle.desk.proofs.Holders.{Written, for_customers}
use Rattle.desk.proofs.marking.for_holders.Given as goal

abbrev pub invariant-loop-at : goal.invariant-loop-at
invariant-loop-at l =
    Written
    (for_customers (λ n. get_or (customer_at l.customers n).positions (l.number.value - 1) (pos 0) *ℤ pos (series_of l.series).size *ℤ (pos l.price.value -ℤ pos (series_of l.series).price)))
    l.amounts l.at
