use Rattle.std.proofs.Common.{◌≡◌, ◌-◌, min, get_or, pos, nat_abs, ap, ◌∙◌, w64, SFits, to_z, of_z, rules}
use Rattle.std.proofs.lemmas.Int.{to_z-of_z}
use Rattle.steps.specs.State.{balance}
use Rattle.steps.specs.Deals.{least, forced, enough}
use Rattle.exposure.specs.Forced.{suffices}
use Rattle.tables.specs.Views.{all_series_of}
use Rattle.desk.specs.Views.{state}
use Rattle.desk.proofs.desk.Desk.forced_count.Goals as goal

pub returns : goal.returns
unfolding forced enough
returns g c =
    let s = state g.B.Book g.R.MarginRule c.args.self.now in
    let t = c.args.terms.now in
    let i = t.lot.series.value in
    let held = ap (λ r. r.positions) c.get-row.ensures in
    let fits : SFits w64 c.balance.result = search rules in
    let has : to_z w64 (of_z w64 c.balance.result) ≡ balance s t.one.value = to_z-of_z w64 c.balance.result fits ∙ c.balance.ensures.answer ∙ ap (balance s) c.get.ensures in
    c.least_count.ensures ∙ (λ j. least (suffices (g.R.MarginRule.asked (c.valuation.ensures.rule j)) (all_series_of (c.valuation.ensures.series j)) (held j) i (has j) t.lot.price.value) (min t.lot.count.value (nat_abs (get_or (held j) (i - 1) (pos 0)))))
