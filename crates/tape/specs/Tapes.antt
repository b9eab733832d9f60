-- What a tape tells of a day.
use Rattle.std.specs.Prelude.{◌≡◌, ℕ, ◌+◌, cond, List, [], ◌∷◌, ◌++◌, Some, None, Ok, Err, vec_items, Option, Result, ◌==◌}
use Rattle.std.specs.Option.{option_to_list}
use Rattle.price.specs.declared.day.Band.{Band}
use Rattle.price.specs.declared.day.Session.{Session}
use Rattle.price.specs.declared.day.Trade.{Trade}
use Rattle.tape.specs.declared.item.Keyword.TheVariants as keyword
use Rattle.tape.specs.declared.item.Trouble.{Trouble}
use Rattle.tape.specs.declared.item.Header.{Header}
use Rattle.tape.specs.declared.item.Day.{Day}
use Rattle.tape.specs.declared.item.Refusal.{Refusal}
use Rattle.tape.specs.declared.item.Refusal.TheVariants.{Line, Missing, Memory}
use Rattle.tape.specs.Lines.{line_of}

-- a text by its lines; what follows the last newline is a line too, unless it is empty
abbrev pub longer : ℕ → List (List ℕ) → List (List ℕ)
longer b [] = (b ∷ []) ∷ []
longer b (line ∷ lines) = (b ∷ line) ∷ lines

abbrev pub lines_of : List ℕ → List (List ℕ)
lines_of [] = []
lines_of (b ∷ bs) = cond (b == 10) ([] ∷ lines_of bs) (longer b (lines_of bs))

-- nothing said yet
abbrev pub nothing : Header
nothing = record { last = None; band = None; bid = None; ask = None; committee = None }

abbrev pub Told : Type 0
Told = List Trade × Session

-- the last second and the band have to be there
abbrev pub session_of : Header → Option ℕ → Option Band → Result Session Refusal
session_of h None band = Err (Missing keyword.Last)
session_of h (Some last) None = Err (Missing keyword.Band)
session_of h (Some last) (Some band) = Ok (record { last = last; band = band; bid = h.bid; ask = h.ask; committee = h.committee })

abbrev pub with_trades : List Trade → Result Session Refusal → Result Told Refusal
with_trades ts (Ok s) = Ok (ts, s)
with_trades ts (Err e) = Err e

abbrev pub finish : Header → List Trade → Result Told Refusal
finish h ts = with_trades ts (session_of h h.last h.band)

-- the n-th line, and then the rest
abbrev pub then_rest : ℕ → List Trade → (Header → List Trade → Result Told Refusal) → Result (Header × Option Trade) Trouble → Result Told Refusal
then_rest n ts rest (Err t) = Err (Line n t)
then_rest n ts rest (Ok x) = rest x.0 (ts ++ option_to_list x.1)

-- the lines from the n-th on, after this header and these trades
abbrev pub read_lines : ℕ → List (List ℕ) → Header → List Trade → Result Told Refusal
read_lines n [] h ts = finish h ts
read_lines n (line ∷ lines) h ts = then_rest n ts (read_lines (n + 1) lines) (line_of h line)

abbrev pub day_of : List ℕ → Result Told Refusal
day_of text = read_lines 1 (lines_of text) nothing []

-- the same of a result that holds its trades in memory
abbrev pub told : Day → Told
told day = (vec_items day.trades, day.session)

abbrev pub Gives : Result Told Refusal → Result Day Refusal → Type 0
Gives said (Ok day) = said ≡ Ok (told day)
Gives said (Err (Line n t)) = said ≡ Err (Line n t)
Gives said (Err (Missing k)) = said ≡ Err (Missing k)
Gives said (Err Memory) = Unit {0}

abbrev pub Reads : List ℕ → Result Day Refusal → Type 0
Reads text r = Gives (day_of text) r
