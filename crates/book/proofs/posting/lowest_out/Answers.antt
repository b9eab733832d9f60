use Rattle.std.proofs.Common.{◌≡◌, length, get_or, pos, sym, ◌∙◌, arith, w64, SFits, rules}
use Rattle.std.proofs.lemmas.List.{drop_all}
use Rattle.std.proofs.lemmas.Int.{to_z-of_z}
use Rattle.book.specs.Balances.{new_balance}
use Rattle.book.proofs.Turns.{lowest_here, lowest_on}
use Rattle.book.proofs.posting.lowest_out.Goals as goal

pub returns-then-is_none : goal.returns-then-is_none
returns-then-is_none g c =
    let b = c.args.book.now in
    let ms = c.args.amounts.now in
    let fb : SFits w64 c.balance.result = search rules in
    let fa : SFits w64 (get_or ms c.loop-i.i (pos 0)) = search rules in
    let e : c.balance_after.result ≡ new_balance c.balance.result (get_or ms c.loop-i.i (pos 0)) = simp to_z-of_z at c.balance_after.ensures.answer in
    let turn = lowest_here (g.B.Book.balances b) ms c.loop-i.i c.balance.result c.balance_after.result (g.B.Book.laws.accounts b) c.told-amounts c.loop-i-test.true c.balance.ensures.answer e c.if-is_none.ensures in
    record { answer = sym turn ∙ c.loop-i.invariant }

pub loop-i-preserved : goal.loop-i-preserved
loop-i-preserved g c =
    let b = c.args.book.now in
    let ms = c.args.amounts.now in
    let fb : SFits w64 c.balance.result = search rules in
    let fa : SFits w64 (get_or ms c.loop-i.i (pos 0)) = search rules in
    let e : c.balance_after.result ≡ new_balance c.balance.result (get_or ms c.loop-i.i (pos 0)) = simp to_z-of_z at c.balance_after.ensures.answer in
    let turn = lowest_on (g.B.Book.balances b) ms c.loop-i.i c.balance.result c.balance_after.result (g.B.Book.laws.accounts b) c.told-amounts c.loop-i-test.true c.balance.ensures.answer e c.if-is_none.ensures in
    sym turn ∙ c.loop-i.invariant

pub returns : goal.returns
returns g c =
    let bs = g.B.Book.balances c.args.book.now in
    let long : length bs ≡ 64 = g.B.Book.laws.accounts c.args.book.now in
    let e = drop_all c.loop-i.i bs (omega arith) in
    record { answer = rw e at c.loop-i.invariant }
