use Rattle.std.proofs.Common.{set, ◌∙◌, w64, SFits, rules}
use Rattle.std.proofs.lemmas.Int.{to_z-of_z}
use Rattle.desk.proofs.Posts.{zeros, deal_set}
use Rattle.desk.proofs.amounts.for_deal.Goals as goal

pub returns : goal.returns
returns c =
    let a = c.args in
    let m = c.args.shares in
    let b : SFits w64 m.buyer = search rules in
    let s : SFits w64 m.seller = search rules in
    let h : SFits w64 m.house = search rules in
    (λ i. set (set (set zeros 63 (to_z-of_z w64 m.house h i)) (c.index.ensures i) (to_z-of_z w64 m.seller s i)) (c.index-2.ensures i) (to_z-of_z w64 m.buyer b i))
    ∙ deal_set a.buyer.value a.seller.value m.buyer m.seller m.house a.buyer.low a.buyer.high a.seller.low a.seller.high
