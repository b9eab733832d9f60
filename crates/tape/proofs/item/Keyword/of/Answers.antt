use Rattle.std.proofs.Common.{◌∙◌, rules, tests}
use Rattle.std.specs.Str.{bytes_eq}
use Rattle.std.proofs.lemmas.Iterator.{YieldsList-from_slice}
use Rattle.std.proofs.lemmas.Iterator.Search.{find_from_yields_List}
use Rattle.tape.specs.Names.{name_of}
use Rattle.tape.specs.Lines.{keywords}
use Rattle.tape.proofs.item.Keyword.of.Goals as goal

pub returns : goal.returns
returns c =
    let found = find_from_yields_List (λ k. bytes_eq c.args.word.now (name_of k)) _ _ c.find.result c.find.ensures.ran (YieldsList-from_slice keywords cc) (λ x b q k. search (rules, tests)) in
    c.copied.ensures ∙ found
