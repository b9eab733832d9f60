-- Every room has 64 balances, 24 series, and brokers of 57 to 63 only.
use Rattle.std.proofs.Common.{ℕ, zero, suc, ◌-◌, ◌≤◌, List, [], ◌∷◌, map, get_or, Some, None, Option, unwrap_or, ◌∙◌, arith}
use Rattle.std.specs.Option.{option_map}
use Rattle.std.proofs.lemmas.List.{length-map}
use Rattle.terms.specs.declared.ranges.Ranged.{Ranged}
use Rattle.book.specs.declared.kind.Book.{Ghosts as BookGhosts}
use Rattle.margin.specs.declared.rule.MarginRule.{Ghosts as RuleGhosts}
use Rattle.tables.specs.declared.customer.Customer.{Customer}
use Rattle.tables.specs.Views.{customer_of, series_of}
use Rattle.steps.specs.State.{no_customer}
use Rattle.clearing.specs.declared.room.Room.{Room}
use Rattle.clearing.specs.Made.{state_of}
use Rattle.day_sheet.specs.Fits.{RangedState}

broker_within : (o : Option (Ranged 57 63)) → unwrap_or (option_map (λ b. b.value) o) 0 ≤ 63
broker_within None = omega arith
broker_within (Some b) = b.high

brokers_within : (rows : List Customer) (k : ℕ) → unwrap_or (get_or (map customer_of rows) k no_customer).broker 0 ≤ 63
unfolding no_customer
brokers_within [] k = omega arith
brokers_within (x ∷ xs) zero = broker_within x.broker
brokers_within (x ∷ xs) (suc k) = brokers_within xs k

pub ranged : {B R : Type 0} (book : BookGhosts B) (rule : RuleGhosts R) (room : Room B R) → RangedState (state_of book rule room)
ranged book rule room =
    record {
      balances = book.laws.accounts room.desk.book.now;
      series = length-map room.desk.series.rows series_of ∙ room.desk.series.all;
      brokers = λ n. brokers_within room.desk.customers.rows (n - 1);
    }
