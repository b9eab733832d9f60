-- The letters of the rules, in the order in which they are tried.
use Rattle.std.specs.Prelude.{ℕ}
use Rattle.price.specs.declared.day.Rule.{Rule}
use Rattle.price.specs.declared.day.Rule.TheVariants.{LastHalfHour, LastHour, WholeDay, Quotations, Committee}

-- a to e, by their codes
abbrev pub letter_of : Rule → ℕ
letter_of LastHalfHour = 97
letter_of LastHour = 98
letter_of WholeDay = 99
letter_of Quotations = 100
letter_of Committee = 101
