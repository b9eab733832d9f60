-- How a settlement price is told.
use Rattle.std.specs.Prelude.{ℕ, List, ◌++◌, codes, decimal}
use Rattle.std.proofs.Math.Utf8.{encode}
use Rattle.price.specs.declared.day.Rule.{Rule}
use Rattle.price.specs.declared.day.Rule.TheVariants.{LastHalfHour, LastHour, WholeDay, Quotations, Committee}
use Rattle.price.specs.declared.day.Settlement.{Settlement}
use Rattle.price.specs.Letters.{letter_of}

abbrev pub rule_words : Rule → List ℕ
rule_words LastHalfHour = codes "the mean of the last half hour"
rule_words LastHour = codes "the mean of the last hour"
rule_words WholeDay = codes "the mean of the day"
rule_words Quotations = codes "the mean of best bid and best ask"
rule_words Committee = codes "the committee's price"

abbrev pub settlement_words : Settlement → List ℕ
settlement_words s = codes "settlement price: " ++ (decimal s.price.value ++ (codes ", by rule " ++ (encode (letter_of s.rule) ++ (codes ", " ++ rule_words s.rule))))
