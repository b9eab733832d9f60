use Rattle.std.proofs.Common.{arith}
use Rattle.tables.specs.Views.{customer_of, closed_out}
use Rattle.tables.proofs.Rows.{each_more}
use Rattle.tables.proofs.customers.Customers.close_out.Goals as goal

pub loop-customer-preserved : goal.loop-customer-preserved
loop-customer-preserved c = each_more customer_of c.args.self.now.rows c.loop-customer.customer-items (closed_out c.args.series.value) _ c.customer-item.result _ (omega arith) (omega arith) c.loop-customer.invariant c.customer-item.is c.close_out.ensures
