-- What a line says.
use Rattle.std.specs.Prelude.{ℕ, cond, List, [], ◌∷◌, Some, None, Ok, Err, slice_index, Option, Result, ◌==◌}
use Rattle.std.specs.Option.{option_map, ok_or}
use Rattle.std.specs.List.{find}
use Rattle.std.specs.Str.{bytes_eq}
use Rattle.price.specs.declared.day.Trade.{Trade}
use Rattle.tape.specs.declared.item.Keyword.{Keyword}
use Rattle.tape.specs.declared.item.Keyword.TheVariants as keyword
use Rattle.tape.specs.declared.item.Item.{Item}
use Rattle.tape.specs.declared.item.Item.TheVariants as item
use Rattle.tape.specs.declared.item.Trouble.{Trouble}
use Rattle.tape.specs.declared.item.Trouble.TheVariants as trouble
use Rattle.tape.specs.declared.item.Header.{Header}
use Rattle.tape.specs.Names.{name_of}
use Rattle.tape.specs.Words.{before, after, trimmed_of, numbers_of}

abbrev pub keywords : List Keyword
keywords = keyword.Last ∷ keyword.Band ∷ keyword.Bid ∷ keyword.Ask ∷ keyword.Committee ∷ keyword.Trade ∷ []

abbrev pub keyword_of : List ℕ → Option Keyword
keyword_of word = find (λ k. bytes_eq word (name_of k)) keywords

-- the item that the numbers after a keyword make
abbrev pub band_of : List ℕ → Item
band_of ns = item.Band (record { low = slice_index ns 0; high = slice_index ns 1 })

abbrev pub trade_of : List ℕ → Item
trade_of ns = item.Trade (record { second = slice_index ns 0; price = slice_index ns 1; count = slice_index ns 2 })

abbrev pub item_by : Keyword → List ℕ → Option Item
item_by keyword.Last text = option_map (λ ns. item.Last (slice_index ns 0)) (numbers_of 1 text)
item_by keyword.Band text = option_map band_of (numbers_of 2 text)
item_by keyword.Bid text = option_map (λ ns. item.Bid (slice_index ns 0)) (numbers_of 1 text)
item_by keyword.Ask text = option_map (λ ns. item.Ask (slice_index ns 0)) (numbers_of 1 text)
item_by keyword.Committee text = option_map (λ ns. item.Committee (slice_index ns 0)) (numbers_of 1 text)
item_by keyword.Trade text = option_map trade_of (numbers_of 3 text)

abbrev pub with_keyword : Option Keyword → List ℕ → Result (Option Item) Trouble
with_keyword None numbers = Err trouble.Keyword
with_keyword (Some k) numbers = ok_or (option_map Some (item_by k numbers)) (trouble.Numbers k)

-- a line without the spaces in front: no item where it is blank or begins with #
abbrev pub text_of : List ℕ → Result (Option Item) Trouble
text_of [] = Ok None
text_of (b ∷ bs) = cond (b == 35) (Ok None) (with_keyword (keyword_of (before 32 (b ∷ bs))) (after 32 (b ∷ bs)))

abbrev pub item_of : List ℕ → Result (Option Item) Trouble
item_of line = text_of (trimmed_of line)

-- what may be said once
abbrev pub once_of : {T : Type 0} → Option T → T → Keyword → Result (Option T) Trouble
once_of None x k = Ok (Some x)
once_of (Some y) x k = Err (trouble.Again k)

abbrev pub done : {T U : Type 0} → (T → U) → Result T Trouble → Result U Trouble
done f (Ok x) = Ok (f x)
done f (Err t) = Err t

abbrev pub noted : Header → Item → Result Header Trouble
noted h (item.Last n) = done (λ x. record { last = x; band = h.band; bid = h.bid; ask = h.ask; committee = h.committee }) (once_of h.last n keyword.Last)
noted h (item.Band b) = done (λ x. record { last = h.last; band = x; bid = h.bid; ask = h.ask; committee = h.committee }) (once_of h.band b keyword.Band)
noted h (item.Bid n) = done (λ x. record { last = h.last; band = h.band; bid = x; ask = h.ask; committee = h.committee }) (once_of h.bid n keyword.Bid)
noted h (item.Ask n) = done (λ x. record { last = h.last; band = h.band; bid = h.bid; ask = x; committee = h.committee }) (once_of h.ask n keyword.Ask)
noted h (item.Committee n) = done (λ x. record { last = h.last; band = h.band; bid = h.bid; ask = h.ask; committee = x }) (once_of h.committee n keyword.Committee)
noted h (item.Trade t) = Ok h

-- a trade, where the item is one
abbrev pub traded : Item → Option Trade
traded (item.Last n) = None
traded (item.Band b) = None
traded (item.Bid n) = None
traded (item.Ask n) = None
traded (item.Committee n) = None
traded (item.Trade t) = Some t

-- a trade, or none, beside the header as it is then
abbrev pub beside : Header → Result (Option Trade) Trouble → Result (Header × Option Trade) Trouble
beside h r = done (λ o. (h, o)) r

-- what one line adds: to the header, or a trade
abbrev pub added : Header → Result (Option Item) Trouble → Result (Header × Option Trade) Trouble
added h (Err t) = Err t
added h (Ok None) = Ok (h, None)
added h (Ok (Some i)) = done (λ x. (x, traded i)) (noted h i)

abbrev pub line_of : Header → List ℕ → Result (Header × Option Trade) Trouble
line_of h line = added h (item_of line)
