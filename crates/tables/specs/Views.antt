-- What the tables mean: the customers and the series of the clearing steps.
use Rattle.std.specs.Prelude.{ℕ, ◌-◌, false, List, map, pos, slice_index_or, slice_set}
use Rattle.std.specs.Option.{option_map}
use Rattle.tables.specs.declared.customer.Customer.{Customer as CustomerRow}
use Rattle.tables.specs.declared.customers.Customers.{Customers}
use Rattle.tables.specs.declared.series.Series.{Series as SeriesRow}
use Rattle.tables.specs.declared.series_table.SeriesTable.{SeriesTable}
use Rattle.steps.specs.State.{Customer, Series, no_customer, no_series}
use Rattle.steps.specs.Deals.{with_positions}
use Rattle.steps.specs.declared.Stage.TheVariants.{Open}

abbrev pub customer_of : CustomerRow → Customer
customer_of c = record { broker = option_map (λ b. b.value) c.broker; positions = c.positions.held; notice = c.notice }

abbrev pub series_of : SeriesRow → Series
series_of x = record { stage = x.stage; size = x.size.value; limit = x.limit.value; fee = x.fee.value; price = x.price.value; marked = x.marked }

abbrev pub customers_of : Customers → List Customer
customers_of t = map customer_of t.rows

abbrev pub all_series_of : SeriesTable → List Series
all_series_of t = map series_of t.rows

-- by number, from 1
abbrev pub customer_at : Customers → ℕ → Customer
customer_at t n = slice_index_or (customers_of t) (n - 1) no_customer

abbrev pub series_at : SeriesTable → ℕ → Series
series_at t i = slice_index_or (all_series_of t) (i - 1) no_series

-- a series as it is listed
abbrev pub listed : ℕ → ℕ → ℕ → ℕ → Series
listed size limit price fee = record { stage = Open; size = size; limit = limit; fee = fee; price = price; marked = false }

-- a customer without a position in a series
abbrev pub closed_out : ℕ → Customer → Customer
closed_out i c = with_positions c (slice_set c.positions (i - 1) (pos 0))
