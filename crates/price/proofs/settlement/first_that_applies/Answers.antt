use Rattle.std.proofs.Common.{◌≡◌, subst, rules}
use Rattle.std.specs.Iterator.Runs.{ItemsMapTo}
use Rattle.price.specs.Prices.{all_rules}
use Rattle.price.specs.Tally.{raw, by_sums}
use Rattle.price.proofs.Found.{first_found}
use Rattle.price.proofs.settlement.first_that_applies.Goals as goal

pub returns : goal.returns
returns c =
    let run = c.find_map.ensures.runs in
    let price = by_sums (raw c.args.session.now) c.args.sums.now in
    let all : run.0.from.rest.now ≡ all_rules = cc in
    let items = subst (ItemsMapTo run.0 (λ y. y.now)) all (c.iter.ensures.runs run.0 run.0.seen) in
    first_found _ _ price run.0 all_rules items (λ x o q k. search rules) c.find_map.result (λ a r q k. search rules) run.2
