-- What the program says of a day.
use Rattle.std.specs.Prelude.{ℕ, List, Ok, Err, Result}
use Rattle.terms.specs.declared.fault.Fault.{Fault}
use Rattle.terms.specs.Words.{fault_words}
use Rattle.price.specs.declared.day.Settlement.{Settlement}
use Rattle.price.specs.Words.{settlement_words}

abbrev pub answer_words : Result Settlement Fault → List ℕ
answer_words (Ok s) = settlement_words s
answer_words (Err f) = fault_words f
