-- How a refusal is told.
use Rattle.std.specs.Prelude.{ℕ, List, ◌++◌, codes, decimal}
use Rattle.tape.specs.Names.{name_of, form_of}
use Rattle.tape.specs.declared.item.Keyword.{Keyword}
use Rattle.tape.specs.declared.item.Trouble.{Trouble}
use Rattle.tape.specs.declared.item.Trouble.TheVariants as trouble
use Rattle.tape.specs.declared.item.Refusal.{Refusal}
use Rattle.tape.specs.declared.item.Refusal.TheVariants as refusal

abbrev pub trouble_words : Trouble → List ℕ
trouble_words trouble.Keyword = codes "a line begins with last, band, bid, ask, committee, trade or #"
trouble_words (trouble.Numbers k) = codes "expected " ++ form_of k
trouble_words (trouble.Again k) = codes "there is a line with " ++ (name_of k ++ codes " before")

abbrev pub missing_words : Keyword → List ℕ
missing_words k = codes "no line with " ++ name_of k

abbrev pub refusal_words : Refusal → List ℕ
refusal_words (refusal.Line line t) = codes "line " ++ (decimal line ++ (codes ": " ++ trouble_words t))
refusal_words (refusal.Missing k) = missing_words k
refusal_words refusal.Memory = codes "no memory for the trades"
