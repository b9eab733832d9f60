use Rattle.std.proofs.Common.{◌≡◌, ◌++◌, map, take, drop}
use Rattle.tables.specs.Views.{customer_of, closed_out}
use Rattle.tables.proofs.customers.Customers.close_out.Given as goal

abbrev pub invariant-loop-customer : goal.invariant-loop-customer
invariant-loop-customer l =
    map customer_of l.customer-items ≡ map (closed_out l.series.value) (take l.customer-index (map customer_of l.initial.customer-items)) ++ drop l.customer-index (map customer_of l.initial.customer-items)
