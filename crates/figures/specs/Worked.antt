-- The worked figures: what is asked, and what was written down as its answer.
use Rattle.std.specs.Prelude.{◌≡◌, ℕ, List, [], ◌∷◌, ◌++◌, map, replicate, ℤ, pos, Some, None, Ok, Err, Option, Result}
use Rattle.std.specs.List.{AllByRecursion}
use Rattle.terms.specs.declared.call.Answer.{Answer}
use Rattle.terms.specs.declared.call.Call.{Call}
use Rattle.terms.specs.declared.call.Call.TheVariants as call
use Rattle.terms.specs.declared.fault.Fault.{Fault}
use Rattle.terms.specs.declared.fault.Fault.TheVariants.{UnderNotice}
use Rattle.book.specs.Balances.{total}
use Rattle.steps.specs.State.{State, new_room, balance}
use Rattle.steps.specs.Steps.{step}
use Rattle.price.specs.declared.day.Session.{Session}
use Rattle.price.specs.declared.day.Trade.{Trade}
use Rattle.price.specs.declared.day.Rule.{Rule}
use Rattle.price.specs.declared.day.Rule.TheVariants.{LastHalfHour, WholeDay, Quotations}
use Rattle.margin.specs.Question.{Answers}
use Rattle.margin.specs.Rules.{flat_rule, share_rule}
use Rattle.price.specs.Letters.{letter_of}
use Rattle.price.specs.Prices.{Priced, settlement}

-- a question that one of the parts answers
pub data Question : Type 0 where
  -- the settlement price of a day
  price_of : Session → List Trade → Question
  -- what a margin rule asks for a series, its size and price, and a count
  margins_of : Answers → ℕ → ℕ → ℕ → ℕ → Question
  -- calls on a new room, with a table book that is all 0 and 5,000 and 3,500 a contract; and the accounts to look at
  day_of : List Call → List ℕ → Question

-- an answer: a price with its letter or a refusal; the initial and the minimum margin; the answer to each call, the
-- balances of the accounts and the total of all balances
pub data Reply : Type 0 where
  priced : Priced → Reply
  asked_for : ℕ → ℕ → Reply
  ended : List (Result Answer Fault) → List ℤ → ℤ → Reply

-- the answers to calls, the earliest first, and the state that they end with
abbrev pub answers : State → List Call → List (Result Answer Fault)
answers s [] = []
answers s (c ∷ cs) = (step s c).0 ∷ answers (step s c).1 cs

abbrev pub ends : State → List Call → State
ends s [] = s
ends s (c ∷ cs) = ends (step s c).1 cs

abbrev pub flat_room : State
flat_room = new_room (replicate 64 (pos 0)) 0 0 (flat_rule (λ series. (5000, 3500)))

abbrev pub reply : Question → Reply
reply (price_of s ts) = priced (settlement s ts)
reply (day_of calls accounts) = ended (answers flat_room calls) (map (balance (ends flat_room calls)) accounts) (total (ends flat_room calls).balances)
reply (margins_of rule series size price count) = asked_for (rule series size price count).0 (rule series size price count).1

pub record Figure : Type 0 where
  pub asked : Question
  pub written : Reply

abbrev pub Stands : Figure → Type 0
Stands f = reply f.asked ≡ f.written

-- a session that ends at noon, with the band 900 to 1,100
abbrev pub noon : Option ℕ → Option ℕ → Session
noon bid ask = record { last = 43200; band = record { low = 900; high = 1100 }; bid = bid; ask = ask; committee = None }

abbrev pub at : ℕ → ℕ → ℕ → Trade
at second price count = record { second = second; price = price; count = count }

abbrev pub figure : Question → Reply → Figure
figure q r = record { asked = q; written = r }

abbrev pub by : ℕ → Rule → Reply
by price rule = priced (Ok (price, letter_of rule))

abbrev pub done : ℕ → ℕ → Result Answer Fault
done figure lifted = Ok (record { figure = figure; lifted = lifted })

-- a customer buys 1 contract at 2,000 with 5,000 in its account; it is marked at a price, and notices go out
abbrev pub marked_down : ℕ → List Call
marked_down price =
    call.Begin ∷ call.Enrol 1 57 ∷ call.Enrol 2 57 ∷ call.List 1 50 1 2000 0 ∷ call.Deposit 1 5000 ∷ call.Deposit 2 9000
    ∷ call.Trade 1 2 1 1 2000 ∷ call.Late ∷ call.Shut ∷ call.Mark 1 price ∷ call.Notices ∷ []

abbrev pub called_last : ℕ → List (Result Answer Fault)
called_last n =
    done 0 0 ∷ done 0 0 ∷ done 0 0 ∷ done 0 0 ∷ done 0 0 ∷ done 0 0 ∷ done 0 0 ∷ done 0 0 ∷ done 0 0 ∷ done 0 0 ∷ done n 0 ∷ []

unfoldable pub worked : List Figure
worked =
    -- 3 at 1,000 and 1 at 1,002: half a rial goes up
    figure (price_of (noon None None) (at 43200 1000 3 ∷ at 43200 1002 1 ∷ [])) (by 1001 LastHalfHour)
    -- 10 contracts in the day, 2 in the half hour: enough
    ∷ figure (price_of (noon None None) (at 36000 990 8 ∷ at 41400 1000 2 ∷ [])) (by 1000 LastHalfHour)
    -- 11 in the day, 2 in the half hour and in the hour: not enough
    ∷ figure (price_of (noon None None) (at 36000 990 9 ∷ at 41400 1000 2 ∷ [])) (by 992 WholeDay)
    -- no trades, bid 990 and ask 1,001
    ∷ figure (price_of (noon (Some 990) (Some 1001)) []) (by 996 Quotations)
    -- flat, 5,000 and 3,500 a contract: 2 contracts
    ∷ figure (margins_of (flat_rule (λ series. (5000, 3500))) 1 10 1000 2) (asked_for 10000 7000)
    -- share, rate 1,250 and part 7,000: 3 contracts of size 10 at 1,003
    ∷ figure (margins_of (share_rule 1250 7000) 1 10 1003 3) (asked_for 3762 2634)
    -- a balance at the minimum margin gets no notice, 1 rial less does
    ∷ figure (day_of (marked_down 500) (1 ∷ [])) (ended (called_last 0) (pos 3500 ∷ []) (pos 14000))
    ∷ figure (day_of (marked_down 499) (1 ∷ [])) (ended (called_last 1) (pos 3499 ∷ []) (pos 14000))
    -- a day: a customer is called, may not open more, and is closed by force
    ∷ figure
    (day_of
    (call.Begin ∷ call.Enrol 1 57 ∷ call.Enrol 2 57 ∷ call.List 10 50 1 1000 20 ∷ call.Deposit 1 12000 ∷ call.Deposit 2 30000
    ∷ call.Trade 1 2 1 2 1010 ∷ call.Late ∷ call.Shut ∷ call.Mark 1 600 ∷ call.Notices ∷ call.Trade 1 2 1 1 600 ∷ call.Late
    ∷ call.Force 1 2 1 2 590 ∷ [])
    (1 ∷ 2 ∷ 64 ∷ []))
    (ended
    (called_last 1 ++ (Err (UnderNotice 1) ∷ done 0 0 ∷ done 2 1 ∷ []))
    (pos 3520 ∷ pos 38320 ∷ pos 160 ∷ []) (pos 42000))
    ∷ []

abbrev pub Figures : Type 0
Figures = AllByRecursion Stands worked
