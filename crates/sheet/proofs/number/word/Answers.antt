use Rattle.std.proofs.Common.{get_or, sym, ◌∙◌, arith}
use Rattle.sheet.proofs.Digits.{below_18, digit_small}
use Rattle.sheet.proofs.number.word.Goals as goal

pub overflow_mul-so_far : goal.overflow_mul-so_far
overflow_mul-so_far c = let h = below_18 c.loop-b.so_far c.loop-b.b-index c.loop-b.invariant.0 (omega arith) in omega arith

pub overflow_add-so_far : goal.overflow_add-so_far
overflow_add-so_far c =
    let h = below_18 c.loop-b.so_far c.loop-b.b-index c.loop-b.invariant.0 (omega arith) in
    let d = digit_small (get_or c.args.digits.now c.loop-b.b-index 0) c.in_ok-so_far.field-0 (sym c.in_ok-so_far.was ∙ c.digit.ensures) in
    omega arith
