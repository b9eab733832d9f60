-- The rows of the tables after a call: how long they are, and what stands in them.
use Rattle.std.proofs.Common.{◌≡◌, ℕ, zero, suc, ◌+◌, ◌-◌, ◌<◌, ◌≤◌, Bool, true, false, cond, eqb, leb, List, [], ◌∷◌, map, length, get_or, set, replicate, ℤ, pos, ◌+ℤ◌, neg_ℤ, sym, refl, ap, ◌∙◌, subst, inl, inr, arith, length-set}
use lib.IntN.{+ℤ_idr}
use lib.ListN.{length-replicate}
use Rattle.std.proofs.lemmas.List.{get_or-set_same, get_or-set_other}
use Rattle.std.specs.List.{range_with_len}
use Rattle.std.proofs.lemmas.Bool.{eqb-true, cases_eq, eq-eqb, ne_eqb, and_parts, leb-true}
use Rattle.terms.specs.declared.call.Call.{Call}
use Rattle.terms.specs.declared.call.Call.TheVariants as call
use Rattle.book.proofs.Added.{linear}
use Rattle.steps.specs.State.{State, Customer, customers, all_series, no_customer, is_customer, is_series, customer, position}
use Rattle.steps.specs.Deals.{Deal, deal_moves, with_positions, shifted, force_deal}
use Rattle.steps.specs.Steps.{under_broker, noted, customers_after, lift, trade_deal}
use Rattle.runs.specs.Trading.{side}
use Rattle.runs.proofs.Flags.{seat, set_either}

pub tables : all_series ≡ 24
unfolding all_series
tables = refl

pub place : (i : ℕ) → is_series i ≡ true → (1 ≤ i) × (i - 1 < all_series)
place i h =
    let parts = and_parts (leb 1 i) (leb i 24) h in
    (leb-true 1 i parts.0, omega (arith, leb-true 1 i parts.0, leb-true i 24 parts.1, tables))

-- numbers from 1 are told apart as their places are
pub same_place : (m n : ℕ) → 1 ≤ m → 1 ≤ n → eqb (m - 1) (n - 1) ≡ eqb m n
same_place m n low high =
    elim (cases_eq m n) [
      | inl e ↦ eq-eqb (m - 1) (n - 1) (ap (λ k. k - 1) e) ∙ sym (eq-eqb m n e)
      | inr d ↦ ne_eqb (m - 1) (n - 1) (λ e. d (omega arith)) ∙ sym (ne_eqb m n d)
    ]

pub set_at : {X : Type 0} (xs : List X) (k j : ℕ) (v d : X) → k < length xs → get_or (set xs k v) j d ≡ cond (eqb j k) v (get_or xs j d)
set_at xs k j v d within =
    elim (cases_eq j k) [
      | inl e ↦ rw (eq-eqb j k e) (rw e (get_or-set_same xs k v d within))
      | inr n ↦ rw (ne_eqb j k n) (get_or-set_other xs k j v d n)
    ]

-- what holds of every row of a table, and past its end
abbrev pub Every : {X : Type 0} → X → (X → Type 0) → List X → Type 0
Every d P xs = (k : ℕ) → P (get_or xs k d)

module _ {X : Type 0} (d : X) (P : X → Type 0) where
  pub every_new : P d → (m : ℕ) → Every d P (replicate m d)
  every_new none zero k = none
  every_new none (suc m) zero = none
  every_new none (suc m) (suc k) = every_new none m k

  pub every_set : (xs : List X) → Every d P xs → (k : ℕ) (v : X) → P v → Every d P (set xs k v)
  every_set xs all k v row j =
      elim (set_either xs k j v d) [ inl e ↦ subst P (sym e) (all j) | inr e ↦ subst P (sym e.1) row ]

  pub every_map : (f : X → X) → ((x : X) → P x → P (f x)) → (xs : List X) → Every d P xs → Every d P (map f xs)
  every_map f keeps [] all k = all k
  every_map f keeps (x ∷ xs) all zero = keeps x (all zero)
  every_map f keeps (x ∷ xs) all (suc k) = every_map f keeps xs (λ j. all (suc j)) k

  pub every_counted : P d → (g : ℕ → X) → ((n : ℕ) → P (g n)) → (a n : ℕ) → Every d P (map g (range_with_len a n))
  every_counted none g row a zero k = none
  every_counted none g row a (suc n) zero = row a
  every_counted none g row a (suc n) (suc k) = every_counted none g row (a + 1) n k

-- every customer has a position in every series
abbrev pub FullRow : Customer → Type 0
FullRow c = length c.positions ≡ all_series

abbrev pub Full : List Customer → Type 0
Full cs = (k : ℕ) → length (get_or cs k no_customer).positions ≡ all_series

pub full_nobody : (cs : List Customer) → length no_customer.positions ≡ all_series
unfolding no_customer
full_nobody cs = length-replicate all_series (pos 0)

pub full_new : (m : ℕ) → Full (replicate m no_customer)
full_new = every_new no_customer FullRow (full_nobody [])

full_row : (cs : List Customer) → Full cs → (k : ℕ) (v : Customer) → length v.positions ≡ all_series → Full (set cs k v)
full_row = every_set no_customer FullRow

full_map : (f : Customer → Customer) → ((c : Customer) → length (f c).positions ≡ length c.positions) → (cs : List Customer) → Full cs → Full (map f cs)
full_map f keeps = every_map no_customer FullRow f (λ c row. keeps c ∙ row)

full_counted : (g : ℕ → Customer) → ((n : ℕ) → length (g n).positions ≡ all_series) → (a n : ℕ) → Full (map g (range_with_len a n))
full_counted = every_counted no_customer FullRow (full_nobody [])

pub no_positions : (k : ℕ) → get_or no_customer.positions k (pos 0) ≡ pos 0
unfolding no_customer
no_positions = every_new (pos 0) (λ z. z ≡ pos 0) refl all_series

module _ (s : State) (full : Full s.customers) where
  full_shifted : (p i : ℕ) (by : ℤ) → length (shifted s p i by) ≡ all_series
  full_shifted p i by = length-set (customer s p).positions (i - 1) _ ∙ full (p - 1)

  full_deal : (d : Deal) → Full (deal_moves s d)
  full_deal d = full_row _ (full_row s.customers full (d.buyer - 1) _ (full_shifted d.buyer d.series _)) (d.seller - 1) _ (full_shifted d.seller d.series _)

  pub full_moved : (c : Call) → Full (customers_after s c)
  full_moved call.Begin = full
  full_moved (call.Enrol c b) = full_row s.customers full (c - 1) (under_broker (customer s c) b) (full (c - 1))
  full_moved (call.List size limit i price fee) = full
  full_moved (call.Deposit n a) = full
  full_moved (call.Withdraw n a) = full
  full_moved (call.Trade b o i n q) = full_deal (trade_deal b o i n q)
  full_moved call.Late = full
  full_moved call.Shut = full
  full_moved (call.Mark i q) = full
  full_moved (call.Final i q) = full_map (λ c. with_positions c (set c.positions (i - 1) (pos 0))) (λ c. length-set c.positions (i - 1) (pos 0)) s.customers full
  full_moved (call.Force c o i offer q) = full_deal (force_deal s c o i offer q)
  full_moved (call.Cover c) = full
  full_moved call.Notices = full_counted (λ n. noted (customer s n) _) (λ n. full (n - 1)) 1 customers

  pub full_lifted : Full (lift s).customers
  full_lifted = full_counted (λ n. noted (customer s n) _) (λ n. full (n - 1)) 1 customers

-- a number that moves by something under a test
moved_if : (t : Bool) (x z by w : ℤ) → (t ≡ true → x ≡ z) → by ≡ w → cond t (x +ℤ by) z ≡ z +ℤ cond t w (pos 0)
moved_if true x z by w same e = λ i. same refl i +ℤ e i
moved_if false x z by w same e = sym (+ℤ_idr z)

-- a deal between two customers of the room, in a series of it
pub record Fits (s : State) (d : Deal) : Type 0 where
  pub buyer : is_customer d.buyer ≡ true
  pub seller : is_customer d.seller ≡ true
  pub apart : d.buyer ≡ d.seller → ⊥
  pub series : is_series d.series ≡ true

module _ (s : State) (d : Deal) (fits : Fits s d) (wide : length s.customers ≡ customers) (full : Full s.customers) where
  -- a position of a party, in any series
  shifted_at : (p : ℕ) (by w : ℤ) → by ≡ w → (j : ℕ) → is_series j ≡ true → get_or (shifted s p d.series by) (j - 1) (pos 0) ≡ position s p j +ℤ cond (eqb j d.series) w (pos 0)
  shifted_at p by w e j is =
      set_at (customer s p).positions (d.series - 1) (j - 1) _ (pos 0) (omega (arith, full (p - 1), place d.series fits.series))
      ∙ ap (λ t. cond t (position s p d.series +ℤ by) (position s p j)) (same_place j d.series (place j is).0 (place d.series fits.series).0)
      ∙ moved_if (eqb j d.series) (position s p d.series) (position s p j) by w (λ t. ap (position s p) (sym (eqb-true j d.series t))) e

  at_seller : (j : ℕ) → is_series j ≡ true → get_or (get_or (deal_moves s d) (d.seller - 1) no_customer).positions (j - 1) (pos 0) ≡ position s d.seller j +ℤ cond (eqb j d.series) (side d.seller d) (pos 0)
  at_seller j is =
      let n = pos d.count in
      let sold : neg_ℤ n ≡ side d.seller d = rw (ne_eqb d.seller d.buyer (λ e. fits.apart (sym e)), eq-eqb d.seller d.seller refl) (omega (arith, linear)) in
      ap (λ c. get_or c.positions (j - 1) (pos 0)) (get_or-set_same (set s.customers (d.buyer - 1) _) (d.seller - 1) _ no_customer (omega (arith, length-set s.customers (d.buyer - 1) (with_positions (customer s d.buyer) (shifted s d.buyer d.series n)), wide, seat d.seller fits.seller)))
      ∙ shifted_at d.seller (neg_ℤ n) (side d.seller d) sold j is

  at_buyer : (j : ℕ) → is_series j ≡ true → get_or (get_or (deal_moves s d) (d.buyer - 1) no_customer).positions (j - 1) (pos 0) ≡ position s d.buyer j +ℤ cond (eqb j d.series) (side d.buyer d) (pos 0)
  at_buyer j is =
      let n = pos d.count in
      let bought : n ≡ side d.buyer d = rw (ne_eqb d.buyer d.seller fits.apart, eq-eqb d.buyer d.buyer refl) (omega (arith, linear)) in
      let elsewhere : d.buyer - 1 ≡ d.seller - 1 → ⊥ = λ e. fits.apart (omega (arith, seat d.buyer fits.buyer, seat d.seller fits.seller)) in
      ap (λ c. get_or c.positions (j - 1) (pos 0))
      (get_or-set_other (set s.customers (d.buyer - 1) _) (d.seller - 1) (d.buyer - 1) _ no_customer elsewhere
      ∙ get_or-set_same s.customers (d.buyer - 1) _ no_customer (omega (arith, wide, seat d.buyer fits.buyer)))
      ∙ shifted_at d.buyer n (side d.buyer d) bought j is

  at_other : (n : ℕ) → is_customer n ≡ true → (n ≡ d.buyer → ⊥) → (n ≡ d.seller → ⊥) → (j : ℕ) → get_or (get_or (deal_moves s d) (n - 1) no_customer).positions (j - 1) (pos 0) ≡ position s n j +ℤ cond (eqb j d.series) (side n d) (pos 0)
  at_other n is not_buyer not_seller j =
      let none : side n d ≡ pos 0 = rw (ne_eqb n d.buyer not_buyer, ne_eqb n d.seller not_seller) refl in
      let from_buyer : n - 1 ≡ d.buyer - 1 → ⊥ = λ e. not_buyer (omega (arith, seat n is, seat d.buyer fits.buyer)) in
      let from_seller : n - 1 ≡ d.seller - 1 → ⊥ = λ e. not_seller (omega (arith, seat n is, seat d.seller fits.seller)) in
      ap (λ c. get_or c.positions (j - 1) (pos 0))
      (get_or-set_other (set s.customers (d.buyer - 1) _) (d.seller - 1) (n - 1) _ no_customer from_seller
      ∙ get_or-set_other s.customers (d.buyer - 1) (n - 1) _ no_customer from_buyer)
      ∙ sym (+ℤ_idr (position s n j)) ∙ ap (λ z. position s n j +ℤ z) (sym (ap (λ z. cond (eqb j d.series) z (pos 0)) none ∙ either (eqb j d.series)))
    where
      either : (t : Bool) → cond t (pos 0) (pos 0) ≡ pos 0
      either true = refl
      either false = refl

  -- what a deal does to the position of any customer, in any series
  pub deal_position : (n j : ℕ) → is_customer n ≡ true → is_series j ≡ true → get_or (get_or (deal_moves s d) (n - 1) no_customer).positions (j - 1) (pos 0) ≡ position s n j +ℤ cond (eqb j d.series) (side n d) (pos 0)
  deal_position n j is series =
      let Moves : ℕ → Type 0 = λ k. get_or (get_or (deal_moves s d) (k - 1) no_customer).positions (j - 1) (pos 0) ≡ position s k j +ℤ cond (eqb j d.series) (side k d) (pos 0) in
      elim (cases_eq n d.seller) [
        | inl e ↦ subst Moves (sym e) (at_seller j series)
        | inr not_seller ↦
            elim (cases_eq n d.buyer) [
              | inl e ↦ subst Moves (sym e) (at_buyer j series)
              | inr not_buyer ↦ at_other n is not_buyer not_seller j
            ]
      ]
