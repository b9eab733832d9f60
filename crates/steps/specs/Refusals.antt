-- Why a call is refused: for each call a list, in the order in which it is tested.
use Rattle.std.specs.Prelude.{ℕ, ◌+◌, Bool, cond, not, ◌&&◌, ◌||◌, List, [], ◌∷◌, ◌++◌, ℤ, pos, negsuc, ◌+ℤ◌, ◌-ℤ◌, neg_ℤ, is_some, Some, None, Ok, Err, Option, Result, ◌==◌, int_le, nat_le, nat_lt, unsigned_abs}
use Rattle.std.specs.Option.{unwrap_or}
use Rattle.terms.specs.Ranges.{in_range}
use Rattle.terms.specs.declared.call.Call.{Call}
use Rattle.terms.specs.declared.call.Call.TheVariants as call
use Rattle.terms.specs.declared.fault.Fault.{Fault}
use Rattle.terms.specs.declared.fault.Fault.TheVariants.{AccountKind, NoSeries, OutOfRange, SameParties, WrongPhase, Enrolment, Listing, Marking, UnderNotice, PastLimit, BelowMargin, NothingToForce, NothingToCover, NotEmpty}
use Rattle.book.specs.Balances.{is_account}
use Rattle.book.specs.Postings.{all_answer}
use Rattle.steps.specs.Phases.{phase_number}
use Rattle.steps.specs.State.{State, Series, is_customer, is_broker, is_series, customer, series_at, position, balance, under_notice, enrolled, is_open, ever_listed}
use Rattle.steps.specs.Margins.{margins, margins_of, lacks}
use Rattle.steps.specs.Deals.{Deal, bought, sold, shifted, closes, force_deal}

-- a refusal where its condition holds
abbrev pub refuse : Bool → Fault → Option Fault
refuse b f = cond b (Some f) None

-- the first of a list that holds
abbrev pub first : List (Option Fault) → Option Fault
first [] = None
first (None ∷ rest) = first rest
first (Some f ∷ rest) = Some f

abbrev pub unless : ℕ → ℕ → ℕ → Bool
unless low high n = not (is_some (in_range low high n))

-- ---- what came in

abbrev pub not_customer : ℕ → Option Fault
not_customer n = refuse (not (is_customer n)) (AccountKind n)

abbrev pub not_series : ℕ → Option Fault
not_series i = refuse (not (is_series i)) (NoSeries i)

abbrev pub bad_price : ℕ → Bool
bad_price p = unless 1 1000000000 p

abbrev pub bad_count : ℕ → Bool
bad_count n = unless 1 1000 n

abbrev pub bad_amount : ℕ → Bool
bad_amount a = unless 1 1000000000000000 a

-- ---- how things stand

-- the phases in which a call is taken, by their numbers: from the first to the last
abbrev pub phases_of : Call → ℕ × ℕ
phases_of call.Begin = (0, 0)
phases_of (call.Enrol c b) = (1, 3)
phases_of (call.List size limit i price fee) = (1, 2)
phases_of (call.Deposit n a) = (1, 3)
phases_of (call.Withdraw n a) = (1, 2)
phases_of (call.Trade b s i n q) = (1, 2)
phases_of call.Late = (1, 1)
phases_of call.Shut = (2, 2)
phases_of (call.Mark i q) = (3, 3)
phases_of (call.Final i q) = (3, 3)
phases_of (call.Force c o i n q) = (2, 3)
phases_of (call.Cover c) = (3, 3)
phases_of call.Notices = (3, 3)

abbrev pub in_phase : State → ℕ × ℕ → Bool
in_phase s phases = nat_le phases.0 (phase_number s.phase) && nat_le (phase_number s.phase) phases.1

abbrev pub wrong_phase : State → Call → Option Fault
wrong_phase s call = refuse (not (in_phase s (phases_of call))) WrongPhase

abbrev pub stranger : State → ℕ → Option Fault
stranger s c = refuse (not (enrolled s c)) (Enrolment c)

abbrev pub not_open : State → ℕ → Option Fault
not_open s i = refuse (not (is_open (series_at s i).stage)) (Listing i)

-- a party of a deal whose position moves so and that is posted so
abbrev pub party : State → ℕ → ℕ → ℤ → ℤ → List (Option Fault)
party s c i by amount =
    let apart = not (closes (position s c i) by) in
    refuse (under_notice s c && apart) (UnderNotice c)
    ∷ refuse (apart && nat_lt (series_at s i).limit (unsigned_abs (position s c i +ℤ by))) (PastLimit c)
    ∷ refuse (apart && lacks (balance s c +ℤ amount) (margins s (shifted s c i by)).0) (BelowMargin c)
    ∷ []

-- the other party of a forced deal, on whichever side it stands
abbrev pub counterparty : State → ℕ → ℕ → Deal → List (Option Fault)
counterparty s o i d =
    cond (d.buyer == o)
    (party s o i (pos d.count) (bought (series_at s i) d.count d.price))
    (party s o i (neg_ℤ (pos d.count)) (sold (series_at s i) d.count d.price))

-- the book, for the postings of a whole call
abbrev pub of_book : Result (Unit {0}) Fault → Option Fault
of_book (Ok u) = None
of_book (Err f) = Some f

abbrev pub book_refuses : State → List ℤ → Option Fault
book_refuses s amounts = of_book (all_answer s.balances s.lines s.cost amounts)

-- the lowest account whose balance is not 0
abbrev pub not_empty : ℕ → List ℤ → Option Fault
not_empty n [] = None
not_empty n (b ∷ bs) = cond (unsigned_abs b == 0) (not_empty (n + 1) bs) (Some (NotEmpty n))

-- the lowest series that is listed, has not ended and is not marked
abbrev pub unmarked : ℕ → List Series → Option Fault
unmarked i [] = None
unmarked i (x ∷ xs) = cond (is_open x.stage && not x.marked) (Some (Marking i)) (unmarked (i + 1) xs)

-- who withdraws: a customer keeps its initial margin, a broker or the house 0
abbrev pub least_left : State → ℕ → ℕ
least_left s n = cond (is_customer n) (margins_of s n).0 0

-- what a balance lacks to 0
abbrev pub debt : ℤ → ℕ
debt (pos n) = 0
debt (negsuc n) = n + 1

abbrev pub broker_of : State → ℕ → ℕ
broker_of s c = unwrap_or (customer s c).broker 0

-- ---- the lists

-- but for what the book says of the postings
abbrev pub room_refusals : State → Call → List (Option Fault)
room_refusals s call.Begin = wrong_phase s call.Begin ∷ not_empty 1 s.balances ∷ []
room_refusals s (call.Enrol c b) =
    not_customer c ∷ refuse (not (is_broker b)) (AccountKind b)
    ∷ wrong_phase s (call.Enrol c b) ∷ refuse (enrolled s c) (Enrolment c) ∷ []
room_refusals s (call.List size limit i price fee) =
    not_series i ∷ refuse (bad_count size || bad_count limit || bad_price price || unless 0 1000000 fee) OutOfRange
    ∷ wrong_phase s (call.List size limit i price fee) ∷ refuse (ever_listed (series_at s i).stage) (Listing i) ∷ []
room_refusals s (call.Deposit n a) =
    refuse (not (is_customer n || is_broker n)) (AccountKind n) ∷ refuse (bad_amount a) OutOfRange
    ∷ wrong_phase s (call.Deposit n a) ∷ refuse (is_customer n && not (enrolled s n)) (Enrolment n) ∷ []
room_refusals s (call.Withdraw n a) =
    refuse (not (is_account n)) (AccountKind n) ∷ refuse (bad_amount a) OutOfRange
    ∷ wrong_phase s (call.Withdraw n a) ∷ refuse (is_customer n && not (enrolled s n)) (Enrolment n)
    ∷ refuse (lacks (balance s n -ℤ pos a) (least_left s n)) (BelowMargin n) ∷ []
room_refusals s (call.Trade b o i n q) =
    not_customer b ∷ not_customer o ∷ not_series i ∷ refuse (bad_count n || bad_price q) OutOfRange ∷ refuse (b == o) (SameParties b)
    ∷ wrong_phase s (call.Trade b o i n q) ∷ stranger s b ∷ stranger s o ∷ not_open s i
    ∷ (party s b i (pos n) (bought (series_at s i) n q) ++ party s o i (neg_ℤ (pos n)) (sold (series_at s i) n q))
room_refusals s call.Late = wrong_phase s call.Late ∷ []
room_refusals s call.Shut = wrong_phase s call.Shut ∷ []
room_refusals s (call.Mark i q) =
    not_series i ∷ refuse (bad_price q) OutOfRange
    ∷ wrong_phase s (call.Mark i q) ∷ not_open s i ∷ refuse (series_at s i).marked (Marking i) ∷ []
room_refusals s (call.Final i q) =
    not_series i ∷ refuse (bad_price q) OutOfRange
    ∷ wrong_phase s (call.Final i q) ∷ not_open s i ∷ refuse (series_at s i).marked (Marking i) ∷ []
room_refusals s (call.Force c o i offer q) =
    not_customer c ∷ not_customer o ∷ not_series i ∷ refuse (bad_count offer || bad_price q) OutOfRange ∷ refuse (c == o) (SameParties c)
    ∷ wrong_phase s (call.Force c o i offer q) ∷ stranger s c ∷ stranger s o ∷ not_open s i
    ∷ refuse (not (under_notice s c) || unsigned_abs (position s c i) == 0) (NothingToForce c)
    ∷ counterparty s o i (force_deal s c o i offer q)
room_refusals s (call.Cover c) =
    not_customer c ∷ wrong_phase s (call.Cover c) ∷ stranger s c
    ∷ refuse (debt (balance s c) == 0) (NothingToCover c)
    ∷ refuse (int_le (balance s (broker_of s c)) (pos 0)) (NothingToCover (broker_of s c)) ∷ []
room_refusals s call.Notices = wrong_phase s call.Notices ∷ unmarked 1 s.series ∷ []
