use Rattle.std.proofs.Common.{ℕ, eqb, take, drop, sym, ap, ◌+◌, ◌∙◌, subst, rules, tests, arith}
use Rattle.std.proofs.lemmas.Iterator.{YieldsList-from_slice}
use Rattle.std.proofs.lemmas.Iterator.Search.{position_from_yields_List}
use Rattle.std.proofs.lemmas.List.{take_rest, take_all, drop_all}
use Rattle.tape.proofs.Cuts.{Sought, found, lost}
use Rattle.tape.proofs.words.cut.Goals as goal

pub returns-in-Some : goal.returns-in-Some
returns-in-Some c =
    let text = c.args.text.now in
    let i = c.in-Some.i in
    let is_at = λ (b : ℕ). eqb b c.args.at in
    let sought = position_from_yields_List is_at _ _ c.position.result c.position.ensures.ran (YieldsList-from_slice text cc) (λ x b q k. search (rules, tests)) in
    let there = found is_at text i (subst (Sought is_at text) c.in-Some.is sought) in
    record {
      before = ap (λ n. take n text) there;
      after = take_rest text (i + 1) ∙ ap (λ n. drop (n + 1) text) there;
    }

pub returns-in-None : goal.returns-in-None
returns-in-None c =
    let text = c.args.text.now in
    let is_at = λ (b : ℕ). eqb b c.args.at in
    let sought = position_from_yields_List is_at _ _ c.position.result c.position.ensures.ran (YieldsList-from_slice text cc) (λ x b q k. search (rules, tests)) in
    let past = lost is_at text (subst (Sought is_at text) c.in-None.is sought) in
    record {
      before = sym (take_all _ text past);
      after = sym (drop_all _ text (omega arith));
    }
