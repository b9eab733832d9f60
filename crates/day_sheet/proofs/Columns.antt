-- That every number of an answer fits its column.
use Rattle.std.proofs.Common.{◌≡◌, ℕ, ◌+◌, ◌-◌, ◌^◌, ◌<◌, ◌≤◌, min, Bool, true, false, List, [], ◌∷◌, ◌++◌, length, take, ℤ, nat_abs, Some, None, Ok, Err, count_by, Option, Result, sym, subst, arith, lit<, rules}
use Rattle.std.specs.List.{range_with_len, AllByRecursion}
use Rattle.std.specs.Option.{ok_or}
use Rattle.std.proofs.lemmas.List.FromFn.{length-range_with_len}
use Rattle.std.proofs.ByRecursion.{All-append}
use Rattle.std.proofs.lemmas.List.Sums.{count_by-le-length}
use Rattle.std.proofs.lemmas.Bool.Decides.{nat_tests}
use Rattle.terms.specs.declared.call.Answer.{Answer}
use Rattle.terms.specs.declared.call.Call.{Call}
use Rattle.terms.specs.declared.call.Call.TheVariants as call
use Rattle.terms.specs.declared.fault.Fault.{Fault}
use Rattle.terms.specs.declared.fault.Fault.TheVariants.{Field}
use Rattle.terms.specs.Faults.{number_of, place_of}
use Rattle.book.specs.Postings.{lowest_out, answer_by}
use Rattle.steps.specs.State.{State, Series, customers, position}
use Rattle.steps.specs.Deals.{enough, forced}
use Rattle.steps.specs.Refusals.{refuse, first, room_refusals, book_refuses, of_book, not_empty, unmarked}
use Rattle.steps.specs.Steps.{figure, answer, freed, moved, posts, refusal}
use Rattle.sheet.specs.Kinds.{numbers_in, number_in}
use Rattle.sheet.specs.Numbers.{number_of as number_of_column}
use Rattle.sheet.specs.Lines.{entry_said, field_of, then, ended, line_said, fitting as fitting_numbers}
use Rattle.sheet.specs.Printed.{answered, fitting}
use Rattle.runs.proofs.Positions.{first_within}
use Rattle.day_sheet.specs.Fits.{RangedState, AnswersFit, UnreadFit}

-- ---- the columns

columns_fit : (line number place : ℕ) (a : Answer) → line ≤ 1000 → number < 1000 → place < 100000 → a.figure < 10 ^ 18 → a.lifted < 1000 → fitting (record { line = line; number = number; place = place; answer = a }) ≡ true
columns_fit line number place a h n p f l = grind (arith, nat_tests)

small_number : (f : Fault) → number_of f < 1000
small_number f = search rules

fault_fits : (f : Fault) (line : ℕ) → place_of f < 100000 → line ≤ 1000 → fitting (answered line (Err f)) ≡ true
fault_fits f line place h = columns_fit line (number_of f) (place_of f) (record { figure = 0; lifted = 0 }) h (small_number f) place (lit< tt) (lit< tt)

-- ---- the places of refusals

-- whatever is refused, its place fits
abbrev Placed : Option Fault → Type 0
Placed None = Unit {0}
Placed (Some f) = place_of f < 100000

placed : (b : Bool) (f : Fault) → place_of f < 100000 → Placed (refuse b f)
placed true f h = h
placed false f h = tt

first_placed : (xs : List (Option Fault)) → AllByRecursion Placed xs → Placed (first xs)
first_placed [] h = tt
first_placed (None ∷ xs) h = first_placed xs h.1
first_placed (Some f ∷ xs) h = h.0

-- a place counted from n over a list
not_empty_placed : (n : ℕ) (bs : List ℤ) → n + length bs ≤ 100000 → Placed (not_empty n bs)
not_empty_placed n [] h = tt
not_empty_placed n (b ∷ bs) h = let later = not_empty_placed (n + 1) bs (omega arith) in search rules

unmarked_placed : (n : ℕ) (xs : List Series) → n + length xs ≤ 100000 → Placed (unmarked n xs)
unmarked_placed n [] h = tt
unmarked_placed n (x ∷ xs) h = let later = unmarked_placed (n + 1) xs (omega arith) in search rules

lines_placed : (left needed : ℕ) → Placed (of_book (answer_by None left needed))
lines_placed left needed = search rules

book_placed : (left needed n : ℕ) (bs ms : List ℤ) → n + length bs ≤ 100000 → Placed (of_book (answer_by (lowest_out n bs ms) left needed))
book_placed left needed n [] ms h = lines_placed left needed
book_placed left needed n (b ∷ bs) [] h = lines_placed left needed
book_placed left needed n (b ∷ bs) (a ∷ ms) h = let later = book_placed left needed (n + 1) bs ms (omega arith) in search rules

-- the numbers of a call that its answer may show
record Fields (c : Call) : Type 0 where
  first : number_in (numbers_in c).first < 100000
  second : number_in (numbers_in c).second < 100000
  series : number_in (numbers_in c).series < 100000
  count : number_in (numbers_in c).count < 100000

in_fields : (c : Call) → fitting_numbers (numbers_in c) ≡ true → Fields c
in_fields c h = record { first = grind (arith, nat_tests); second = grind (arith, nat_tests); series = grind (arith, nat_tests); count = grind (arith, nat_tests) }

-- every refusal of every call
room_placed : (s : State) (c : Call) → RangedState s → Fields c → AllByRecursion Placed (room_refusals s c)
room_placed s call.Begin r f = let h = r.balances in search (rules, placed, not_empty_placed)
room_placed s (call.Enrol c b) r f = search (rules, placed)
room_placed s (call.List size limit i price fee) r f = search (rules, placed)
room_placed s (call.Deposit n a) r f = search (rules, placed)
room_placed s (call.Withdraw n a) r f = search (rules, placed)
room_placed s (call.Trade b o i n q) r f = search (rules, placed)
room_placed s call.Late r f = search (rules, placed)
room_placed s call.Shut r f = search (rules, placed)
room_placed s (call.Mark i q) r f = search (rules, placed)
room_placed s (call.Final i q) r f = search (rules, placed)
room_placed s (call.Force c o i offer q) r f = search (rules, placed)
room_placed s (call.Cover c) r f = let h = r.brokers c in search (rules, placed)
room_placed s call.Notices r f = let h = r.series in search (rules, placed, unmarked_placed)

refusal_placed : (s : State) (c : Call) → RangedState s → Fields c → Placed (refusal s c)
refusal_placed s c r f =
    first_placed (room_refusals s c ++ (book_refuses s (posts s c) ∷ []))
    (All-append Placed (room_refusals s c) _ (room_placed s c r f) (book_placed s.lines _ 1 s.balances (posts s c) (omega (arith, r.balances)), tt))

-- ---- the figures of accepted calls

few_customers : (p : ℕ → Bool) → count_by p (range_with_len 1 customers) ≤ 56
unfolding customers
few_customers p = omega (arith, count_by-le-length p (range_with_len 1 customers), length-range_with_len 1 customers)

-- force takes one contract of an empty offer, else at most the offer
forced_fits : (s : State) (c i offer q : ℕ) → forced s c i offer q ≤ offer + 1
unfolding forced
forced_fits s c i offer q =
    let most = min offer (nat_abs (position s c i)) in
    let h = first_within (enough s c i q) 1 (most - 1) in
    omega arith

figure_fits : (s : State) (c : Call) → Fields c → figure s c < 10 ^ 18
figure_fits s c f = search (rules, forced_fits, few_customers)

pub answers_fit : AnswersFit
answers_fit s s' c (Ok a) line r fit does h =
    let few = few_customers (freed (moved s c)) in
    subst (λ x. fitting (answered line (Ok x)) ≡ true) (sym does.1)
    (columns_fit line 0 0 (answer s c) h (lit< tt) (lit< tt) (figure_fits s c (in_fields c fit)) (omega arith))
answers_fit s s' c (Err f) line r fit does h =
    fault_fits f line (subst Placed does.0 (refusal_placed s c r (in_fields c fit))) h

-- ---- the places of lines that are not read

-- where a reading fails, the place of the fault fits
abbrev Read : {X : Type 0} → Result X Fault → Type 0
Read (Ok x) = Unit {0}
Read (Err f) = place_of f < 100000

then_read : {X Y : Type 0} (r : Result X Fault) (f : X → Result Y Fault) → Read r → ((x : X) → Read (f x)) → Read (then r f)
then_read (Ok x) f h k = k x
then_read (Err e) f h k = h

ok_or_read : {X : Type 0} (o : Option X) (f : Fault) → place_of f < 100000 → Read (ok_or o f)
ok_or_read None f h = h
ok_or_read (Some x) f h = tt

entry_read : (place : ℕ) (used : Bool) (xs : List ℕ) → place < 100000 → Read (entry_said place used xs)
entry_read place true xs h = then_read (ok_or (number_of_column xs) (Field place)) _ (ok_or_read (number_of_column xs) (Field place) h) (λ n. tt)
entry_read place false xs h = search rules

field_read : (place width : ℕ) (used : Bool) (xs : List ℕ) → place < 100000 → Read (field_of place width used xs)
field_read place width used xs h = let entry = entry_read place used (take width xs) h in search (rules, then_read)

ended_read : (xs : List ℕ) → Read (ended xs)
ended_read [] = lit< tt
ended_read (b ∷ []) = search rules
ended_read (b ∷ (c ∷ cs)) = lit< tt

line_read : (text : List ℕ) → Read (line_said text)
line_read [] = lit< tt
line_read (tens ∷ []) = lit< tt
line_read (tens ∷ (units ∷ rest)) = search (rules, then_read, field_read, ended_read, ok_or_read) depth 12

pub unread_fit : UnreadFit
unread_fit text f line unread h = fault_fits f line (subst Read unread (line_read text)) h
