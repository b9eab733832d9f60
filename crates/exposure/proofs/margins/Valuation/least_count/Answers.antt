use Rattle.std.proofs.Common.{◌≡◌, ℕ, ◌-◌, ◌≤◌, min, max, Bool, true, false, get_or, set, pos, nat_abs, sym, refl, ap, ◌∙◌, arith, w64, to_z, of_z, rules}
use Rattle.std.proofs.lemmas.Int.{to_z-of_z}
use Rattle.steps.specs.Deals.{least}
use Rattle.tables.specs.Views.{all_series_of, series_at}
use Rattle.exposure.specs.Forced.{suffices}
use Rattle.exposure.proofs.Closed.{test_is, least_is}
use Rattle.exposure.proofs.Counts.{found, passed, last}
use Rattle.exposure.proofs.margins.Valuation.least_count.Given as given
use Rattle.exposure.proofs.margins.Valuation.least_count.Goals.{After-closable-most, After-suffices}
use Rattle.exposure.proofs.margins.Valuation.least_count.Goals as goal

-- what a count is tested for, with the balance as the code has it, by its bits
abbrev test : (g : given.Over) → After-closable-most g → ℕ → Bool
test g c =
    suffices (g.R.MarginRule.asked c.args.self.now.rule.now) (all_series_of c.args.self.now.series.now) c.args.positions.now.held c.args.series.value (to_z w64 (of_z w64 c.args.balance)) c.args.price.value

tested : (g : given.Over) (c : After-suffices g) → c.suffices.result ≡ suffices (g.R.MarginRule.asked c.args.self.now.rule.now) (all_series_of c.args.self.now.series.now) c.args.positions.now.held c.args.series.value (to_z w64 (of_z w64 c.args.balance)) c.args.price.value c.loop-n.n
tested g c =
    let n : c.unwrap-count.result.value ≡ c.loop-n.n = search rules in
    let few : c.unwrap-count.result.value ≤ nat_abs c.get-held.result.contracts = omega arith in
    let without = c.put.ensures ∙ ap (set c.args.positions.now.held (c.args.series.value - 1)) c.none.ensures in
    test_is (g.R.MarginRule.asked c.args.self.now.rule.now) (all_series_of c.args.self.now.series.now) c.args.positions.now.held c.args.series.value c.args.price.value c.get-held.result.contracts c.get-held.ensures
    (to_z w64 (of_z w64 c.args.balance)) c.loop-n.n c.unwrap-count.result.value c.suffices.result c.margins.result c.put.new.self.held (series_at c.args.self.now.series.now c.args.series.value)
    c.args.positions.now.all c.args.series.low c.args.series.high refl without c.margins.ensures.value few n c.suffices.ensures

-- the count that is returned, once it is known where the loop ends
answers : (g : given.Over) (c : After-closable-most g) (n r : ℕ) → least (test g c) c.closable-most.result ≡ n → r ≡ n → r ≡ least (suffices (g.R.MarginRule.asked c.args.self.now.rule.now) (all_series_of c.args.self.now.series.now) c.args.positions.now.held c.args.series.value c.args.balance c.args.price.value) (min c.args.offer.value (nat_abs (get_or c.args.positions.now.held (c.args.series.value - 1) (pos 0))))
answers g c n r =
    least_is (g.R.MarginRule.asked c.args.self.now.rule.now) (all_series_of c.args.self.now.series.now) c.args.positions.now.held c.args.series.value c.args.price.value c.get-held.result.contracts c.get-held.ensures
    c.args.balance (to_z w64 (of_z w64 c.args.balance)) c.args.offer.value c.closable-most.result n r (to_z-of_z w64 c.args.balance c.ranges.balance) c.closable-most.ensures

pub returns-then-suffices : goal.returns-then-suffices
returns-then-suffices g c =
    let way = goal.at.returns-then-suffices g c in
    let start = way.After-closable-most in
    let n = c.loop-n.n in
    let passes : test g start n ≡ true = sym (tested g way.After-suffices) ∙ c.if-suffices.true in
    answers g start n c.unwrap-count.result.value (found (test g start) c.closable-most.result n c.loop-n.invariant.so_far c.loop-n-test.true passes) (search rules)

pub loop-n-preserved : goal.loop-n-preserved
loop-n-preserved g c =
    let way = goal.at.loop-n-preserved g c in
    let start = way.After-closable-most in
    let n = c.loop-n.n in
    let fails : test g start n ≡ false = sym (tested g way.After-suffices) ∙ c.if-suffices.false in
    record { so_far = passed (test g start) c.closable-most.result n c.loop-n.invariant.so_far c.loop-n-test.true fails; within = omega arith }

pub returns : goal.returns
returns g c =
    let start = (goal.at.returns g c).After-closable-most in
    let n = c.loop-n.n in
    let r : c.unwrap.result.value ≡ max c.closable-most.result 1 = search rules in
    answers g start n c.unwrap.result.value (last (test g start) c.closable-most.result n c.loop-n.invariant.so_far c.loop-n-test.false) (omega arith)
