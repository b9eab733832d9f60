use Rattle.std.proofs.Common.{ℕ, ◌+◌, ◌-◌, ◌<◌, get_or, ℤ, pos, ◌-ℤ◌, ◌*ℤ◌, ap, ◌∙◌, arith, w64}
use Rattle.std.proofs.lemmas.Int.{to_z-of_z}
use Rattle.steps.specs.State.{no_customer}
use Rattle.tables.specs.Views.{customer_of, customer_at, series_of}
use Rattle.tables.proofs.Rows.{read}
use Rattle.desk.proofs.Holders.{for_customers, for_customer, none_written, one_written, all_written}
use Rattle.desk.proofs.marking.for_holders.Goals as goal

pub loop-at-init : goal.loop-at-init
loop-at-init c = none_written _

pub loop-at-preserved : goal.loop-at-preserved
loop-at-preserved c =
    let i = c.loop-at.at in
    let h : i < 56 = omega (arith, c.loop-at-test.true) in
    let x = series_of c.args.series.now in
    let g : ℕ → ℤ = λ n. get_or (customer_at c.args.customers.now n).positions (c.args.number.value - 1) (pos 0) *ℤ pos x.size *ℤ (pos c.args.price.value -ℤ pos x.price) in
    let row = read customer_of c.args.customers.now.rows i (i + 1 - 1) c.customer-item.result no_customer (omega (arith, c.args.customers.now.all)) (omega arith) in
    let held = c.get.ensures ∙ ap (λ x. get_or x.positions (c.args.number.value - 1) (pos 0)) row in
    let is =
    to_z-of_z w64 c.revalued.result (record { sfits = c.revalued.type_inv }) ∙ c.revalued.ensures
    ∙ ap (λ z. z *ℤ pos x.size *ℤ (pos c.args.price.value -ℤ pos x.price)) held
    in
    one_written (for_customers g) c.loop-at.amounts i _ (omega arith) (is ∙ for_customer g i h) c.loop-at.invariant

pub returns : goal.returns
returns c =
    all_written _ c.loop-at.amounts c.loop-at.at (omega (arith, c.loop-at-test.false, c.loop-at.auto.at-end)) c.loop-at.invariant
