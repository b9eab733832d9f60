use Rattle.std.proofs.Common.{arith}
use Rattle.std.proofs.lemmas.Grind.{common_steps}
use Rattle.sheet.proofs.Fills.{spaces_front, spaces_back}
use Rattle.sheet.proofs.row.+write_columns.Goals as goal

pub returns-clause-shown : goal.returns-clause-shown
returns-clause-shown t c spaces =
    let cut = c.split_at_mut-field.ensures in
    let field = c.write_entry.ensures.shown (spaces_front _ _ _ spaces cut.front (omega (arith, cut.front_len))) in
    let rest = c.write_columns.ensures.shown (spaces_back _ _ _ spaces cut.back) in
    grind (arith, common_steps, field, rest)
