use Rattle.std.proofs.Common.{◌≡◌, ◌-◌, arith, rules}
use Rattle.tables.specs.Views.{series_at, all_series_of}
use Rattle.exposure.proofs.Sums.{part_fits, asks_fit, all_fit, asks_more, asks_all}
use Rattle.exposure.proofs.margins.Valuation.margins.Goals as goal

pub sum-all-requires : goal.sum-all-requires
sum-all-requires g c =
    let rule = g.R.MarginRule.asked c.args.self.now.rule.now in
    let laws = g.R.MarginRule.laws c.args.self.now.rule.now in
    record {
      a = asks_fit rule laws (all_series_of c.args.self.now.series.now) c.args.positions.now.held (c.loop-n.n - 1) (omega arith) c.loop-n.invariant;
      b = part_fits rule laws c.unwrap-number.result.value (series_at c.args.self.now.series.now c.unwrap-number.result.value) c.count.result c.part.ensures;
    }

pub loop-n-preserved : goal.loop-n-preserved
loop-n-preserved g c =
    let rule = g.R.MarginRule.asked c.args.self.now.rule.now in
    let ss = all_series_of c.args.self.now.series.now in
    let ps = c.args.positions.now.held in
    let v = c.unwrap-number.result.value in
    let number : v ≡ c.loop-n.n = search rules in
    asks_more rule ss ps c.loop-n.all c.part.result c.sum-all.result c.loop-n.n v c.count.result c.get.result.contracts
    c.loop-n.auto.n number c.get.ensures c.count.ensures c.loop-n.invariant c.part.ensures c.sum-all.ensures

pub returns : goal.returns
returns g c =
    let rule = g.R.MarginRule.asked c.args.self.now.rule.now in
    let laws = g.R.MarginRule.laws c.args.self.now.rule.now in
    let ss = all_series_of c.args.self.now.series.now in
    let ps = c.args.positions.now.held in
    let value = asks_all rule ss ps c.loop-n.all c.loop-n.n (omega (arith, c.loop-n.auto.n-end (omega arith))) c.loop-n.invariant in
    let fits = all_fit rule laws ss ps value in
    record { value = value; bounded = fits.bounded; ordered = fits.ordered }
