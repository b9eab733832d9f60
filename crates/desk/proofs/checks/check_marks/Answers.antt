use Rattle.std.proofs.Common.{sym, ◌∙◌, arith}
use Rattle.desk.proofs.Turns.{unmarked_here, unmarked_on}
use Rattle.desk.proofs.checks.check_marks.Goals as goal

pub returns-then-lacks_mark : goal.returns-then-lacks_mark
returns-then-lacks_mark c =
    let all = c.told-all in
    sym c.loop-i.invariant ∙ unmarked_here c.args.all.now c.loop-i.i _ _ (omega arith) c.lacks_mark.ensures c.if-lacks_mark.true

pub loop-i-preserved : goal.loop-i-preserved
loop-i-preserved c =
    let all = c.told-all in
    sym (unmarked_on c.args.all.now c.loop-i.i _ _ (omega arith) c.lacks_mark.ensures c.if-lacks_mark.false) ∙ c.loop-i.invariant
