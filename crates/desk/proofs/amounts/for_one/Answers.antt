use Rattle.std.proofs.Common.{set, ap, ◌∙◌, w64}
use Rattle.std.proofs.lemmas.Int.{to_z-of_z}
use Rattle.desk.proofs.Posts.{zeros, one_set}
use Rattle.desk.proofs.amounts.for_one.Goals as goal

pub returns : goal.returns
returns c =
    ap (set zeros c.index.result) (to_z-of_z w64 c.args.amount c.ranges.amount)
    ∙ ap (λ k. set zeros k c.args.amount) c.index.ensures
    ∙ one_set c.args.account.value c.args.amount c.args.account.low c.args.account.high
