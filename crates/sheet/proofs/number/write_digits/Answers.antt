use Rattle.std.proofs.Common.{◌-◌, length, ◌∙◌, arith}
use Rattle.std.proofs.lemmas.List.{take_all, take-set}
use Rattle.sheet.proofs.Fills.{filled_none, filled_more, spaces_filled, fewer_spaces, left_early}
use Rattle.sheet.proofs.number.write_digits.Goals as goal

pub loop-at-init : goal.loop-at-init
loop-at-init c = (filled_none c.args.number c.args.column.now, λ spaces. take_all (length c.args.column.now) c.args.column.now (omega arith) ∙ spaces)

pub returns-then-left-eq0-clause-shown : goal.returns-then-left-eq0-clause-shown
returns-then-left-eq0-clause-shown c spaces =
    let v = c.loop-at.invariant in
    let filled = filled_more c.args.number _ c.loop-at.at c.loop-at.column c.loop-at.left c.glyph_at.result (omega arith) (omega arith) (omega arith) v.0 c.glyph_at.ensures in
    spaces_filled c.args.number _ (c.loop-at.at - 1) _ _ (omega arith) filled c.if-left-eq0.true
    (take-set c.loop-at.column (c.loop-at.at - 1) c.glyph_at.result ∙ fewer_spaces c.loop-at.at c.loop-at.column (v.1 spaces))

pub returns-then-left-eq0-clause-whole : goal.returns-then-left-eq0-clause-whole
returns-then-left-eq0-clause-whole c =
    let filled = filled_more c.args.number _ c.loop-at.at c.loop-at.column c.loop-at.left c.glyph_at.result (omega arith) (omega arith) (omega arith) c.loop-at.invariant.0 c.glyph_at.ensures in
    left_early c.args.number _ (c.loop-at.at - 1) _ filled.rest c.if-left-eq0.true

pub loop-at-preserved : goal.loop-at-preserved
loop-at-preserved c =
    let v = c.loop-at.invariant in (
      filled_more c.args.number _ c.loop-at.at c.loop-at.column c.loop-at.left c.glyph_at.result (omega arith) (omega arith) (omega arith) v.0 c.glyph_at.ensures,
      λ spaces. take-set c.loop-at.column (c.loop-at.at - 1) c.glyph_at.result ∙ fewer_spaces c.loop-at.at c.loop-at.column (v.1 spaces),
    )

pub returns-then-left-eq0-2-clause-whole : goal.returns-then-left-eq0-2-clause-whole
returns-then-left-eq0-2-clause-whole c = left_early c.args.number _ c.loop-at.at c.loop-at.left c.loop-at.invariant.0.rest c.if-left-eq0-2.true
