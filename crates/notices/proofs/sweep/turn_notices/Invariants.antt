use Rattle.std.proofs.Common.{◌≡◌, ◌≤◌, map, length, count_by}
use Rattle.std.specs.List.{range_with_len}
use Rattle.steps.specs.State.{no_customer}
use Rattle.tables.specs.Views.{customer_of, all_series_of}
use Rattle.notices.specs.Turns.{due_at, turned_at}
use Rattle.notices.proofs.Swept.{Turned}
use Rattle.notices.proofs.sweep.turn_notices.Given as goal

abbrev pub invariant-loop-at : goal.invariant-loop-at
invariant-loop-at g l =
    let rule = g.R.MarginRule.asked l.valuation.rule.now in
    let ss = all_series_of l.valuation.series.now in
    let bs = g.B.Book.balances l.book in
    let cs = map customer_of l.initial.customer-items in
    record {
      long : length l.customer-items ≡ 56;
      few : l.turned ≤ l.at;
      count : l.turned ≡ count_by (due_at rule ss bs l.turn cs) (range_with_len 1 l.at);
      rows : Turned (turned_at rule ss bs l.turn cs) no_customer cs l.at (map customer_of l.customer-items);
    }
