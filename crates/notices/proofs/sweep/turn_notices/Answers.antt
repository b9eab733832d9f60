use Rattle.std.proofs.Common.{◌≡◌, ◌+◌, ◌-◌, ◌<◌, true, false, map, length, get_or, count_by, sym, ap, subst, ◌∙◌, arith, w64, rules}
use Rattle.std.proofs.lemmas.Bool.{cond-true, cond-false}
use Rattle.std.proofs.lemmas.Int.{to_z-of_z}
use Rattle.std.specs.List.{range_with_len}
use Rattle.steps.specs.State.{no_customer, customers}
use Rattle.steps.specs.Steps.{noted}
use Rattle.tables.specs.Views.{customer_of, all_series_of}
use Rattle.notices.specs.Turns.{due, due_at, turned_at}
use Rattle.notices.proofs.Swept.{Turned, turned_next, turned_more, turned_all, count_more}
use Rattle.notices.proofs.sweep.turn_notices.Goals as goal
use Rattle.notices.proofs.sweep.turn_notices.Goals.{then-is_due, else-is_due}

pub loop-at-preserved : goal.loop-at-preserved
loop-at-preserved g c =
    let rule = g.R.MarginRule.asked c.args.valuation.now.rule.now in
    let ss = all_series_of c.args.valuation.now.series.now in
    let bs = g.B.Book.balances c.args.book.now in
    let t = c.args.turn in
    let cs = map customer_of c.args.customers.now.rows in
    let one = turned_at rule ss bs t cs in
    let p = due_at rule ss bs t cs in
    let i = c.loop-at.at in
    let rows = c.loop-at.customer-items in
    let v = c.loop-at.invariant in
    let h : i < length rows = omega arith in
    let at : i ≡ i + 1 - 1 = omega arith in
    let row = turned_next customer_of one no_customer cs i rows c.customer-item.result h v.rows ∙ ap (λ k. get_or cs k no_customer) at in
    let money = to_z-of_z w64 c.balance-balance.result (record { sfits = c.balance-balance.type_inv }) ∙ c.balance-balance.ensures.answer in
    let is : c.is_due.result ≡ p (i + 1) = c.is_due.ensures ∙ (λ k. due rule ss t (row k) (money k)) in
    elim c.if-is_due.branch [
      | then-is_due w ↦
          let turns : p (i + 1) ≡ true = sym is ∙ w.if-is_due.true in
          let turned = w.turn.ensures ∙ (λ k. noted (row k) (w.notice.ensures k)) ∙ sym (cond-true (p (i + 1)) _ _ turns) in
          record {
            long = search rules;
            few = omega (arith, w.turned-is, v.few);
            count = w.turned-is ∙ omega (arith, v.count, count_more p 1 i (i + 1) true (omega arith) turns);
            rows = subst (λ z. Turned one no_customer cs (i + 1) (map customer_of z)) (sym w.customer-items-is) (turned_more customer_of one no_customer cs i rows _ h turned v.rows);
          }
      | else-is_due w ↦
          let stays : p (i + 1) ≡ false = sym is ∙ w.if-is_due.false in
          let kept = row ∙ sym (cond-false (p (i + 1)) _ _ stays) in
          record {
            long = search rules;
            few = omega (arith, w.turned-is, v.few);
            count = w.turned-is ∙ omega (arith, v.count, count_more p 1 i (i + 1) false (omega arith) stays);
            rows = subst (λ z. Turned one no_customer cs (i + 1) (map customer_of z)) (sym w.customer-items-is) (turned_more customer_of one no_customer cs i rows _ h kept v.rows);
          }
    ]

pub returns : goal.returns
unfolding customers
returns g c =
    let rule = g.R.MarginRule.asked c.args.valuation.now.rule.now in
    let ss = all_series_of c.args.valuation.now.series.now in
    let bs = g.B.Book.balances c.args.book.now in
    let cs = map customer_of c.args.customers.now.rows in
    let one = turned_at rule ss bs c.args.turn cs in
    let v = c.loop-at.invariant in
    let all : c.loop-at.at ≡ 56 = omega arith in
    record {
      after = turned_all customer_of one no_customer cs 56 c.loop-at.customer-items v.long (subst (λ k. Turned one no_customer cs k (map customer_of c.loop-at.customer-items)) all v.rows);
      count = v.count ∙ ap (λ k. count_by (due_at rule ss bs c.args.turn cs) (range_with_len 1 k)) all;
    }
