-- No position passes the limit of its series.
use Rattle.std.proofs.Common.{◌≡◌, ℕ, ◌+◌, ◌-◌, ◌≤◌, true, false, List, get_or, set, ℤ, pos, ◌+ℤ◌, neg_ℤ, nat_abs, None, Ok, Err, sym, refl, subst, inl, inr, arith}
use Rattle.std.proofs.lemmas.Bool.{both_ways, eqb-true, ltb-false}
use Rattle.terms.specs.declared.call.Call.{Call}
use Rattle.terms.specs.declared.call.Call.TheVariants as call
use Rattle.steps.specs.State.{State, Series, Customer, customers, all_series, no_customer, no_series, customer, position, series_at, ever_listed}
use Rattle.steps.specs.Deals.{Deal, deal_moves, with_positions, shifted, force_deal}
use Rattle.steps.specs.Steps.{refusal, moved, next, customers_after, series_after, trade_deal, under_broker, noted, settled_at, ended_at}
use Rattle.runs.specs.Runs.{Event, New, Run, new, more}
use Rattle.runs.proofs.Flags.{set_either}
use Rattle.runs.proofs.Margins.{cleared_at}
use Rattle.runs.proofs.Positions.{passed, Stands, Agreed, trade_agreed, force_agreed}
use Rattle.runs.proofs.Refused.{not_refused}
use Rattle.runs.proofs.Rows.{Every, every_new, every_set, every_map, every_counted, no_positions}

-- a customer whose positions are within the limits of these series
abbrev pub Holds : List Series → Customer → Type 0
Holds xs c = (k : ℕ) → nat_abs (get_or c.positions k (pos 0)) ≤ (get_or xs k no_series).limit

-- a series that was never listed has the limit 0, so that its positions are 0 too
abbrev pub Blank : Series → Type 0
Blank x = ever_listed x.stage ≡ false → x.limit ≡ 0

-- what is kept along a run
pub record Within (s : State) : Type 0 where
  pub rows : Every no_customer (Holds s.series) s.customers
  pub blank : Every no_series Blank s.series

nobody_holds : (xs : List Series) → Holds xs no_customer
nobody_holds xs k = rw (no_positions k) (omega arith)

within_new : (s : State) → New s → Within s
within_new s n =
    record {
      rows = subst (Every no_customer (Holds s.series)) (sym n.nobody) (every_new no_customer (Holds s.series) (nobody_holds s.series) customers);
      blank = subst (Every no_series Blank) (sym n.nothing) (every_new no_series Blank (λ h. refl) all_series);
    }

-- a row with one position set to something within the limit
held_set : (xs : List Series) (ps : List ℤ) (k : ℕ) (v : ℤ) → nat_abs v ≤ (get_or xs k no_series).limit → ((j : ℕ) → nat_abs (get_or ps j (pos 0)) ≤ (get_or xs j no_series).limit) → (j : ℕ) → nat_abs (get_or (set ps k v) j (pos 0)) ≤ (get_or xs j no_series).limit
held_set xs ps k v small held j =
    elim (set_either ps k j v (pos 0)) [ inl e ↦ rw e (held j) | inr e ↦ rw (e.1, e.0) small ]

module _ (s : State) (w : Within s) where
  -- a party closes, so that its position does not grow, or it was found within the limit
  stands_within : (p i : ℕ) (by : ℤ) → Stands s p i by → nat_abs (position s p i +ℤ by) ≤ (series_at s i).limit
  stands_within p i by h =
      elim h [
        | inl e ↦ omega (arith, eqb-true (nat_abs (position s p i +ℤ by) + nat_abs by) (nat_abs (position s p i)) e, w.rows (p - 1) (i - 1))
        | inr e ↦ ltb-false (series_at s i).limit (nat_abs (position s p i +ℤ by)) e.1
      ]

  party_holds : (p i : ℕ) (by : ℤ) → Stands s p i by → Holds s.series (with_positions (customer s p) (shifted s p i by))
  party_holds p i by h = held_set s.series (customer s p).positions (i - 1) _ (stands_within p i by h) (w.rows (p - 1))

  deal_holds : (d : Deal) → Agreed s d → Every no_customer (Holds s.series) (deal_moves s d)
  deal_holds d agreed =
      every_set no_customer (Holds s.series) _
      (every_set no_customer (Holds s.series) s.customers w.rows (d.buyer - 1) _ (party_holds d.buyer d.series (pos d.count) agreed.0))
      (d.seller - 1) _ (party_holds d.seller d.series (neg_ℤ (pos d.count)) agreed.1)

  -- after an accepted call positions are within the limits before it
  rows_moved : (c : Call) → refusal s c ≡ None → Every no_customer (Holds s.series) (customers_after s c)
  rows_moved call.Begin accepted = w.rows
  rows_moved (call.Enrol c b) accepted = every_set no_customer (Holds s.series) s.customers w.rows (c - 1) (under_broker (customer s c) b) (w.rows (c - 1))
  rows_moved (call.List size limit i price fee) accepted = w.rows
  rows_moved (call.Deposit n a) accepted = w.rows
  rows_moved (call.Withdraw n a) accepted = w.rows
  rows_moved (call.Trade b o i n q) accepted = deal_holds (trade_deal b o i n q) (trade_agreed s b o i n q accepted)
  rows_moved call.Late accepted = w.rows
  rows_moved call.Shut accepted = w.rows
  rows_moved (call.Mark i q) accepted = w.rows
  rows_moved (call.Final i q) accepted =
      every_map no_customer (Holds s.series) (λ c. with_positions c (set c.positions (i - 1) (pos 0)))
      (λ c held. held_set s.series c.positions (i - 1) (pos 0) (omega arith) held) s.customers w.rows
  rows_moved (call.Force c o i offer q) accepted = deal_holds (force_deal s c o i offer q) (force_agreed s c o i offer q accepted)
  rows_moved (call.Cover c) accepted = w.rows
  rows_moved call.Notices accepted = every_counted no_customer (Holds s.series) (nobody_holds s.series) (λ n. noted (customer s n) _) (λ n. w.rows (n - 1)) 1 customers

  -- a series whose limit did not fall
  abbrev Raised : ℕ → Series → Type 0
  Raised k y = ((get_or s.series k no_series).limit ≤ y.limit) × Blank y

  same : (k : ℕ) → Raised k (get_or s.series k no_series)
  same k = (omega arith, w.blank k)

  raised_set : (i : ℕ) (v : Series) → Raised (i - 1) v → (k : ℕ) → Raised k (get_or (set s.series (i - 1) v) k no_series)
  raised_set i v up k =
      elim (set_either s.series (i - 1) k v no_series) [
        | inl e ↦ subst (Raised k) (sym e) (same k)
        | inr e ↦ subst (Raised k) (sym e.1) (subst (λ l. Raised l v) (sym e.0) up)
      ]

  -- a series is listed once, and its limit stays
  series_moved : (c : Call) → refusal s c ≡ None → (k : ℕ) → Raised k (get_or (series_after s c) k no_series)
  series_moved call.Begin accepted = same
  series_moved (call.Enrol c b) accepted = same
  series_moved (call.List size limit i price fee) accepted =
      let unlisted = not_refused (ever_listed (series_at s i).stage) _ (passed s (call.List size limit i price fee) accepted).1.1.1.0 in
      raised_set i _ (omega (arith, w.blank (i - 1) unlisted), λ never. absurd (both_ways true never refl))
  series_moved (call.Deposit n a) accepted = same
  series_moved (call.Withdraw n a) accepted = same
  series_moved (call.Trade b o i n q) accepted = same
  series_moved call.Late accepted = same
  series_moved call.Shut accepted = same
  series_moved (call.Mark i q) accepted = raised_set i (settled_at (series_at s i) q) (same (i - 1))
  series_moved (call.Final i q) accepted = raised_set i (ended_at (series_at s i) q) (omega arith, λ never. absurd (both_ways true never refl))
  series_moved (call.Force c o i offer q) accepted = same
  series_moved (call.Cover c) accepted = same
  series_moved call.Notices accepted = λ k. subst (Raised k) (sym (cleared_at s.series k)) (same k)

  within_next : (c : Call) → refusal s c ≡ None → Within (next s c)
  within_next c accepted =
      let held : (n : ℕ) → Holds (series_after s c) (customer (moved s c) n) = λ n k. omega (arith, rows_moved c accepted (n - 1) k, (series_moved c accepted k).0) in
      record {
        rows = every_counted no_customer (Holds (series_after s c)) (nobody_holds (series_after s c)) (λ n. noted (customer (moved s c) n) _) held 1 customers;
        blank = λ k. (series_moved c accepted k).1;
      }

pub limits : {h : List Event} {s : State} (r : Run h s) → Within s
limits (new {s = s} n) = within_new s n
limits (more {s = s} c (Ok a) r d) = subst Within (sym d.2) (within_next s (limits r) c d.0)
limits (more {s = s} c (Err f) r d) = subst Within (sym d.1) (limits r)
