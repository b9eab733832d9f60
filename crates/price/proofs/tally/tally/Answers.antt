use Rattle.std.proofs.Common.{◌≡◌, get_or, None, Some, Err, sym, ap, ◌∙◌, subst, arith}
use Rattle.std.specs.Option.{option_map}
use Rattle.std.proofs.lemmas.List.{at_drop_all, take_all}
use Rattle.std.proofs.lemmas.Option.{MatchOption-at_some, MatchOption-at_none}
use Rattle.std.proofs.lemmas.Result.{err_from_is_err_and}
use Rattle.terms.specs.declared.fault.Fault.TheVariants.{PriceInput}
use Rattle.price.specs.Prices.{first_unfit}
use Rattle.price.specs.Tally.{SumsOf, Tallied}
use Rattle.price.proofs.Turns.{DealOf, no_trade, unfit_here, unfit_later, sums_more, few_more}
use Rattle.price.proofs.tally.tally.Goals as goal

pub returns-in_err-deal : goal.returns-in_err-deal
returns-in_err-deal c =
    let last = c.args.last.value in
    let ts = c.args.trades.now in
    let none : c.checked.result ≡ None = grind arith in
    let here = unfit_here last ts c.loop-i.i c.loop-i-test.true (MatchOption-at_none _ _ none c.checked.ensures) in
    let back = err_from_is_err_and c.from_residual.result c.from_residual.ensures.1 in
    let fault : c.fault_at.result ≡ c.in_err-deal.field-0.0 = grind arith in
    subst (Tallied last ts) (sym (back.1 ∙ ap Err back.2))
    (ap (option_map PriceInput) (sym c.loop-i.invariant.0 ∙ here) ∙ ap Some (sym c.fault_at.ensures ∙ fault))

pub loop-i-preserved : goal.loop-i-preserved
loop-i-preserved c =
    let last = c.args.last.value in
    let ts = c.args.trades.now in
    let i = c.loop-i.i in
    let within = c.loop-i-test.true in
    let d = c.in_ok-deal.deal in
    let checked = MatchOption-at_some _ _ d c.in_ok-deal.ensures.ok_part c.checked.ensures in
    let of : DealOf last (get_or ts i no_trade) d = record { ago = checked.1; price = checked.2; count = checked.3 } in (
      sym (unfit_later last ts i within checked.0) ∙ c.loop-i.invariant.0,
      sums_more last ts i within d of c.loop-i.sums c.with-sums.result c.loop-i.invariant.1 c.with-sums.ensures,
      few_more i d c.loop-i.sums c.with-sums.result c.loop-i.invariant.2 c.with-sums.ensures,
    )

pub returns : goal.returns
returns c =
    let last = c.args.last.value in
    let ts = c.args.trades.now in
    let i = c.loop-i.i in
    let all = take_all i ts c.loop-i-test.false in (
      sym c.loop-i.invariant.0 ∙ at_drop_all (first_unfit last _) ts i c.loop-i-test.false,
      subst (λ l. SumsOf last l c.loop-i.sums) all c.loop-i.invariant.1,
    )
