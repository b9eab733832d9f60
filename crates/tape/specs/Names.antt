-- The words of a tape.
use Rattle.std.specs.Prelude.{ℕ, List, codes}
use Rattle.tape.specs.declared.item.Keyword.{Keyword}
use Rattle.tape.specs.declared.item.Keyword.TheVariants.{Last, Band, Bid, Ask, Committee, Trade}

abbrev pub name_of : Keyword → List ℕ
name_of Last = codes "last"
name_of Band = codes "band"
name_of Bid = codes "bid"
name_of Ask = codes "ask"
name_of Committee = codes "committee"
name_of Trade = codes "trade"

-- how a line with this word is written
abbrev pub form_of : Keyword → List ℕ
form_of Last = codes "last SECOND"
form_of Band = codes "band LOW HIGH"
form_of Bid = codes "bid PRICE"
form_of Ask = codes "ask PRICE"
form_of Committee = codes "committee PRICE"
form_of Trade = codes "trade SECOND PRICE COUNT"
