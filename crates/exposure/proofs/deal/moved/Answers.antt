use Rattle.std.proofs.Common.{◌≤◌, pos, ◌*ℤ◌, nat_abs, sym, ◌∙◌, subst, arith}
use Rattle.exposure.proofs.Products.{turned, three, computed_fits, computed_is}
use Rattle.exposure.proofs.deal.moved.Goals as goal

contracts : (c : goal.After-get-2) → nat_abs c.get.result ≤ 1000
contracts c = subst (λ z. nat_abs z ≤ 1000) (sym c.get.ensures) c.args.position.small

size : (c : goal.After-get-2) → c.get-2.result ≤ 1000
size c = omega (arith, c.args.size.high)

pub overflow_mul-result-2 : goal.overflow_mul-result-2
overflow_mul-result-2 c = computed_fits c.get.result c.args.by _ (contracts c) (size c) c.requires

pub returns : goal.returns
returns c =
    let a = c.args.position.contracts in
    let by = c.args.by in
    let is = computed_is c.get.result by _ (contracts c) (size c) c.requires ∙ (λ i. c.get.ensures i *ℤ pos (c.get-2.ensures i) *ℤ by) in
    record {
      value = is;
      turned = is ∙ turned a (pos c.args.size.value) by;
      small = subst (λ z. nat_abs z ≤ 1000000000000000) (sym is) (three a by _ c.args.position.small c.args.size.high c.requires);
    }
