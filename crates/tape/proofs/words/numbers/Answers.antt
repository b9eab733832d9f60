use Rattle.std.proofs.Common.{◌<◌, ◌≤◌, eqb, length, length-set, ap, sym, ◌∙◌, arith}
use Rattle.std.specs.Bool.{then_some}
use Rattle.std.specs.Option.{option_map}
use Rattle.tape.specs.Words.{with_rest}
use Rattle.tape.proofs.Numbers.{read_first, none_more, number_more, all_read}
use Rattle.tape.proofs.words.numbers.Goals as goal

pub returns-in_err-number : goal.returns-in_err-number
returns-in_err-number g c =
    let text = c.loop-number.rest.now in
    let n = c.loop-number.number-index in
    let within : n < g.row.N = omega (arith, c.loop-number.invariant.0) in
    let read = read_first text _ _ _ _ c.trimmed.ensures c.cut.ensures.before c.cut.ensures.after c.read_number.ensures.value in
    let none = none_more n g.row.N within text (read ∙ ap (λ o. with_rest o c.cut.result.1.now) c.in_err-number.was) in
    c.from_residual.ensures ∙ sym (sym c.loop-number.invariant.1 ∙ ap (option_map _) none)

pub loop-number-preserved : goal.loop-number-preserved
loop-number-preserved g c =
    let text = c.loop-number.rest.now in
    let n = c.loop-number.number-index in
    let items = c.loop-number.number-items in
    let long = c.loop-number.invariant.0 in
    let within : n < g.row.N = omega (arith, long) in
    let rest = c.cut.result.1.now in
    let read = read_first text _ _ _ _ c.trimmed.ensures c.cut.ensures.before c.cut.ensures.after c.read_number.ensures.value in
    let first = read ∙ ap (λ o. with_rest o rest) c.in_ok-number.was in (
      length-set items n c.in_ok-number.field-0 ∙ long,
      number_more n g.row.N within text items c.in_ok-number.field-0 rest long first ∙ c.loop-number.invariant.1,
    )

pub returns : goal.returns
returns g c =
    let text = c.loop-number.rest.now in
    let n = c.loop-number.number-index in
    let items = c.loop-number.number-items in
    let all : g.row.N ≤ n = omega (arith, c.loop-number.invariant.0) in
    let blank = c.is_empty.ensures ∙ ap (λ t. eqb (length t) 0) c.trimmed-2.ensures in
    c.then_some.ensures
    ∙ ap (λ b. then_some b items) blank
    ∙ all_read items text n g.row.N all c.loop-number.invariant.0
    ∙ c.loop-number.invariant.1
