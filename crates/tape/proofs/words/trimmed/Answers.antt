use Rattle.std.proofs.Common.{ℕ, eqb, not, ◌∙◌, ap, drop, rules, tests}
use Rattle.std.proofs.lemmas.Iterator.{YieldsList-from_slice}
use Rattle.std.proofs.lemmas.Iterator.Search.{position_from_yields_List}
use Rattle.std.proofs.lemmas.List.{take_rest}
use Rattle.tape.proofs.Cuts.{from_there}
use Rattle.tape.proofs.words.trimmed.Goals as goal

pub returns : goal.returns
returns c =
    let text = c.args.text.now in
    let no_space = λ (b : ℕ). not (eqb b 32) in
    let sought = position_from_yields_List no_space _ _ c.position.result c.position.ensures.ran (YieldsList-from_slice text cc) (λ x b q k. search (rules, tests)) in
    take_rest text c.unwrap_or-spaces.result ∙ ap (λ n. drop n text) c.unwrap_or-spaces.ensures ∙ from_there no_space text c.position.result sought
