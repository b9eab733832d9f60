use Rattle.std.proofs.Common.{◌≡◌, ◌-◌, set, pos, ◌-ℤ◌, neg_ℤ, ◌∙◌, arith, w64, to_z, of_z}
use Rattle.std.proofs.lemmas.Int.{ints}
use Rattle.desk.proofs.Posts.{zeros, transfer_set}
use Rattle.desk.proofs.amounts.for_transfer.Goals as goal

pub returns : goal.returns
returns c =
    let a = c.args.amount in
    let from = c.args.from in
    let to = c.args.to in
    let small = c.requires in
    let in_full : to_z w64 a ≡ pos a = omega (arith, ints) in
    let back : to_z w64 (of_z w64 (pos 0 -ℤ to_z w64 a)) ≡ neg_ℤ (pos a) = omega (arith, ints) in
    (λ i. set (set zeros (c.get.ensures i - 1) (back i)) (c.index.ensures i) (in_full i))
    ∙ transfer_set from.value to.value a from.low from.high to.low to.high
