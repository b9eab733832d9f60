-- What a bargain means, and what it does to a state.
use Rattle.std.specs.Prelude.{◌≡◌, ℕ, ◌-◌, ◌*◌, not, ◌||◌, List, [], ◌∷◌, ◌++◌, map, ℤ, pos, ◌+ℤ◌, neg_ℤ, Some, None, Ok, Err, Option, Result, ◌==◌, unsigned_abs}
use Rattle.std.specs.List.{range_with_len}
use Rattle.terms.specs.declared.fault.Fault.{Fault}
use Rattle.terms.specs.declared.fault.Fault.TheVariants.{OutOfRange, SameParties, WrongPhase, NothingToForce}
use Rattle.book.specs.Postings.{added, postings}
use Rattle.steps.specs.State.{State, house, position, series_at, under_notice}
use Rattle.steps.specs.Deals.{Deal, bought, sold, deal_post, deal_moves, closing}
use Rattle.steps.specs.Refusals.{first, refuse, party, not_customer, not_series, bad_count, bad_price, in_phase, stranger, not_open, book_refuses}
use Rattle.desk.specs.declared.bargain.Bargain.{Bargain}
use Rattle.desk.specs.declared.bargain.Side.{Side}
use Rattle.desk.specs.declared.bargain.Side.TheVariants.{Buyer, Seller}
use Rattle.desk.specs.declared.bargain.Terms.{Terms}
use Rattle.desk.specs.Moves.{Granted}

abbrev pub deal_of : Bargain → Deal
deal_of x = record { buyer = x.buyer.value; seller = x.seller.value; series = x.lot.series.value; count = x.lot.count.value; price = x.lot.price.value }

-- a trade by these terms, one buying from the other
abbrev pub trade_of : Terms → Deal
trade_of t = record { buyer = t.one.value; seller = t.other.value; series = t.lot.series.value; count = t.lot.count.value; price = t.lot.price.value }

-- a close of so many contracts by these terms, of one's position with the other
abbrev pub closing_of : State → Terms → ℕ → Deal
closing_of s t n = closing s t.one.value t.other.value t.lot.series.value n t.lot.price.value

-- between two, with the positions that the deal leaves
pub record Fair (s : State) (x : Bargain) : Type 0 where
  pub apart : x.buyer.value ≡ x.seller.value → ⊥
  pub buys : x.buyer_after.contracts ≡ position s x.buyer.value x.lot.series.value +ℤ pos x.lot.count.value
  pub sells : x.seller_after.contracts ≡ position s x.seller.value x.lot.series.value +ℤ neg_ℤ (pos x.lot.count.value)

abbrev pub deal_posts : State → Deal → List ℤ
deal_posts s d = map (deal_post s d) (range_with_len 1 house)

abbrev pub struck : State → Deal → State
struck s d =
    record {
      phase = s.phase;
      customers = deal_moves s d;
      series = s.series;
      balances = added s.balances (deal_posts s d);
      lines = s.lines - s.cost * postings (deal_posts s d);
      cost = s.cost;
      rule = s.rule;
    }

-- the book refuses and nothing is changed, or all is posted and both positions moved
abbrev pub Strikes : State → Deal → Result (Unit {0}) Fault → State → Type 0
Strikes s d (Ok u) s' = (book_refuses s (deal_posts s d) ≡ None) × (s' ≡ struck s d)
Strikes s d (Err f) s' = (book_refuses s (deal_posts s d) ≡ Some f) × (s' ≡ s)

-- what is tested of every deal first, in the phases in which it is taken
abbrev pub terms_refusals : State → ℕ × ℕ → ℕ → ℕ → ℕ → ℕ → ℕ → List (Option Fault)
terms_refusals s phases c o i n q =
    not_customer c ∷ not_customer o ∷ not_series i ∷ refuse (bad_count n || bad_price q) OutOfRange ∷ refuse (c == o) (SameParties c)
    ∷ refuse (not (in_phase s phases)) WrongPhase ∷ stranger s c ∷ stranger s o ∷ not_open s i ∷ []

-- so many contracts bought or sold
abbrev pub moves_by : Side → ℕ → ℤ
moves_by Buyer n = pos n
moves_by Seller n = neg_ℤ (pos n)

-- whoever deals on a side in so many contracts of a series at a price
abbrev pub of_side : State → Side → ℕ → ℕ → ℕ → ℕ → List (Option Fault)
of_side s Buyer c i n q = party s c i (pos n) (bought (series_at s i) n q)
of_side s Seller c i n q = party s c i (neg_ℤ (pos n)) (sold (series_at s i) n q)

-- the parties of a deal, the buyer first
abbrev pub of_buyer : State → Deal → List (Option Fault)
of_buyer s d = of_side s Buyer d.buyer d.series d.count d.price

abbrev pub of_seller : State → Deal → List (Option Fault)
of_seller s d = of_side s Seller d.seller d.series d.count d.price

abbrev pub parties : State → Deal → List (Option Fault)
parties s d = of_buyer s d ++ of_seller s d

-- a customer that is not under notice, or that has no position there
abbrev pub unforced : State → ℕ → ℕ → Option Fault
unforced s c i = refuse (not (under_notice s c) || unsigned_abs (position s c i) == 0) (NothingToForce c)

-- refused by one of these, or a bargain that is this deal
abbrev pub Agreed : State → Deal → List (Option Fault) → Result Bargain Fault → Type 0
Agreed s d refusals r = Granted r (first refusals) (λ x. (deal_of x ≡ d) × Fair s x)
