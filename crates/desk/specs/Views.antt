-- What a desk means: the state of the clearing steps.
use Rattle.book.specs.declared.kind.Book.{Ghosts as BookGhosts}
use Rattle.margin.specs.declared.rule.MarginRule.{Ghosts as RuleGhosts}
use Rattle.steps.specs.State.{State}
use Rattle.tables.specs.Views.{customers_of, all_series_of}
use Rattle.desk.specs.declared.desk.Desk.{Desk}

module _ {B R : Type 0} (book : BookGhosts B) (rule : RuleGhosts R) where
  abbrev pub state : Desk B R → State
  state d =
      record {
        phase = d.phase;
        customers = customers_of d.customers;
        series = all_series_of d.series;
        balances = book.balances d.book.now;
        lines = book.lines d.book.now;
        cost = book.COST;
        rule = rule.asked d.rule.now;
      }
