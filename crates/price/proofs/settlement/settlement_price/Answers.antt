use Rattle.std.proofs.Common.{◌≡◌, true, Ok, length, sym, ap, ◌∙◌, arith, rules}
use Rattle.std.proofs.lemmas.Grind.{common_steps}
use Rattle.std.proofs.lemmas.Bool.{and_from, le-leb, ltb-false}
use Rattle.std.proofs.lemmas.Result.{MatchResult-at_ok}
use Rattle.price.specs.Prices.{session_fits, settlement, told}
use Rattle.price.specs.Tally.{raw}
use Rattle.price.proofs.Laws.{priced, stands}
use Rattle.price.proofs.settlement.settlement_price.Goals as goal

pub returns-then-too_many-clause-law : goal.returns-then-too_many-clause-law
returns-then-too_many-clause-law c = stands _ _ _ (grind (arith, common_steps))

pub returns-in_err-sums-clause-law : goal.returns-in_err-sums-clause-law
returns-in_err-sums-clause-law c = stands _ _ _ (search rules)

pub returns : goal.returns
returns c =
    let s = c.args.session.now in
    let ts = c.args.trades.now in
    let checked = c.in_ok-session.session in
    let ok : c.checked.result ≡ Ok checked = grind arith in
    let fits = MatchResult-at_ok _ _ checked ok c.checked.ensures in
    let here : session_fits (raw checked) ≡ true = ap session_fits fits.1 ∙ fits.0 in
    let few = ltb-false 4096 (length ts) (sym c.if-too_many.ensures) in
    let within = and_from _ _ here (le-leb (length ts) 4096 few) in
    let sums = c.in_ok-sums.ensures in
    let of_raw = priced (raw checked) ts within c.in_ok-sums.sums sums.0 sums.1 c.first_that_applies.result c.first_that_applies.ensures in
    let answer : told c.ok_or.result ≡ settlement s ts = ap told c.ok_or.ensures.value ∙ of_raw ∙ ap (λ t. settlement t ts) fits.1 in
    record { answer = answer; law = stands s ts c.ok_or.result answer }
