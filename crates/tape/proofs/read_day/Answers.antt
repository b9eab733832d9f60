use Rattle.std.proofs.Common.{◌≡◌, ◌+◌, ◌<◌, ◌++◌, length, get_or, vec_items, Ok, Err, rules, tests, sym, ap, ◌∙◌, subst, arith}
use Rattle.std.specs.Option.{option_to_list}
use Rattle.std.proofs.lemmas.List.{append-nil}
use Rattle.std.proofs.lemmas.Result.{err_from_is_err_and}
use Rattle.tape.specs.declared.item.Refusal.TheVariants.{Line}
use Rattle.tape.specs.Lines.{beside}
use Rattle.tape.specs.Tapes.{Gives, Reads, read_lines, nothing}
use Rattle.tape.proofs.Days.{by_parts, parts_of, err_behind, part_here, parts_gone, line_refused, next_line, no_more_lines}
use Rattle.tape.proofs.read_day.Goals as goal
use Rattle.tape.proofs.read_day.Goals.{In-Some}

pub loop-i-init : goal.loop-i-init
loop-i-init c =
    let text = c.args.text.now in
    let header : c.default-header.result ≡ nothing = search rules in
    (λ i. read_lines 1 (parts_of text) (header i) (c.new-trades.ensures.items i)) ∙ by_parts text

-- the part of this turn
here : (c : In-Some) → (length c.loop-i.yielded < length (parts_of c.args.text.now)) × (c.in-Some.i ≡ length c.loop-i.yielded) × (c.in-Some.line.now ≡ get_or (parts_of c.args.text.now) (length c.loop-i.yielded) c.in-Some.line.now)
here c =
    part_here c.loop-i.yielded _ c.loop-i.yielded_by c.into_iter-i-iterator.ensures.into_iter_gives c.enumerate-i-items.ensures.source c.enumerate-i-items.ensures.count c.args.text.now c.split.ensures.rest c.split.ensures.done c.split.ensures.closure (λ x b q k. search (rules, tests)) _ _ (c.in-Some.i, c.in-Some.line) c.in-Some.is c.next.ensures.steps

pub returns-in_err-trade : goal.returns-in_err-trade
returns-in_err-trade c =
    let text = c.args.text.now in
    let part = here (goal.at.returns-in_err-trade c).In-Some in
    let behind = err_behind c.note_line.result c.map_err.result _ c.in_err-trade.field-0.0 c.map_err.ensures.cases c.in_err-trade.was in
    let line : c.in_err-trade.field-0.0 ≡ Line (c.in-Some.i + 1) behind.0 = search (rules, behind.2) in
    let refused = line_refused (length c.loop-i.yielded) (parts_of text) c.loop-i.header (vec_items c.loop-i.trades) c.in-Some.line.now part.0 part.2 behind.0 (sym (ap (beside c.note_line.new.self) behind.1) ∙ c.note_line.ensures) in
    let back = err_from_is_err_and c.from_residual.result c.from_residual.ensures.1 in
    subst (Reads text) (sym (back.1 ∙ ap Err (back.2 ∙ line)))
    (sym c.loop-i.invariant ∙ refused ∙ ap (λ k. Err (Line (k + 1) behind.0)) (sym part.1))

pub loop-i-preserved-in-Continue-branch-2 : goal.loop-i-preserved-in-Continue-branch-2
loop-i-preserved-in-Continue-branch-2 c =
    let part = here (goal.at.loop-i-preserved-in-Continue-branch-2 c).In-Some in
    let ok : c.note_line.result ≡ Ok c.in_ok-trade.trade = grind arith in
    let h = c.note_line.new.self in
    let ts = vec_items c.loop-i.trades in
    let more = c.in_ok-push.ensures.items ∙ ap (λ o. ts ++ option_to_list o) (sym c.in-Some-trade.is) in
    next_line c.loop-i.yielded (c.in-Some.i, c.in-Some.line) (parts_of c.args.text.now) c.loop-i.header ts c.in-Some.line.now part.0 part.2 h c.in_ok-trade.trade (vec_items c.push.new.self) (ap (beside h) (sym ok) ∙ c.note_line.ensures) more ∙ c.loop-i.invariant

pub loop-i-preserved : goal.loop-i-preserved
loop-i-preserved c =
    let part = here (goal.at.loop-i-preserved c).In-Some in
    let ok : c.note_line.result ≡ Ok c.in_ok-trade.trade = grind arith in
    let h = c.note_line.new.self in
    let ts = vec_items c.loop-i.trades in
    let more = sym (append-nil ts) ∙ ap (λ o. ts ++ option_to_list o) (sym c.in_default.is) in
    next_line c.loop-i.yielded (c.in-Some.i, c.in-Some.line) (parts_of c.args.text.now) c.loop-i.header ts c.in-Some.line.now part.0 part.2 h c.in_ok-trade.trade ts (ap (beside h) (sym ok) ∙ c.note_line.ensures) more ∙ c.loop-i.invariant

pub returns : goal.returns
returns c =
    let text = c.args.text.now in
    let all = parts_gone c.loop-i.yielded _ c.loop-i.yielded_by c.into_iter-i-iterator.ensures.into_iter_gives c.enumerate-i-items.ensures.source c.enumerate-i-items.ensures.count text c.split.ensures.rest c.split.ensures.done c.split.ensures.closure (λ x b q k. search (rules, tests)) _ _ c.in-None.is c.next.ensures.steps in
    subst (λ said. Gives said c.finished.result) (no_more_lines _ (parts_of text) c.loop-i.header (vec_items c.loop-i.trades) all ∙ c.loop-i.invariant) c.finished.ensures
