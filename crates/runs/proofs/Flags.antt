-- Who is under notice after a call.
use Rattle.std.proofs.Common.{◌≡◌, ℕ, zero, suc, ◌-◌, ◌<◌, ◌≤◌, Bool, true, false, not, ◌&&◌, ◌||◌, leb, ◌⊎◌, List, [], ◌∷◌, length, get_or, set, pos, sym, refl, ap, ◌∙◌, inl, inr, arith, length-set}
use lib.ListN.{length-map}
use Rattle.std.proofs.lemmas.List.FromFn.{get_or-map-range_with_len, length-map-range_with_len}
use Rattle.std.proofs.lemmas.List.{get_or-map}
use Rattle.std.proofs.lemmas.Bool.{and_parts, leb-true}
use Rattle.terms.specs.declared.call.Call.{Call}
use Rattle.terms.specs.declared.call.Call.TheVariants as call
use Rattle.steps.specs.State.{State, Customer, customers, no_customer, is_customer, customer, under_notice}
use Rattle.steps.specs.Margins.{at_initial}
use Rattle.steps.specs.Deals.{Deal, deal_moves, with_positions, shifted, force_deal}
use Rattle.steps.specs.Steps.{noted, under_broker, newly_called, customers_after, moved, lift, trade_deal}

pub sizes : customers ≡ 56
unfolding customers
sizes = refl

pub seat : (n : ℕ) → is_customer n ≡ true → (1 ≤ n) × (n - 1 < customers)
seat n h =
    let parts = and_parts (leb 1 n) (leb n 56) h in
    let low = leb-true 1 n parts.0 in
    let high = leb-true n 56 parts.1 in
    (low, omega (arith, sizes))

-- a list with one element set: at each place the old one, or the new one at its own place
pub set_either : {X : Type 0} (xs : List X) (k j : ℕ) (v d : X) → (get_or (set xs k v) j d ≡ get_or xs j d) ⊎ ((j ≡ k) × (get_or (set xs k v) j d ≡ v))
set_either [] k j v d = inl refl
set_either (x ∷ xs) zero zero v d = inr (refl, refl)
set_either (x ∷ xs) zero (suc j) v d = inl refl
set_either (x ∷ xs) (suc k) zero v d = inl refl
set_either (x ∷ xs) (suc k) (suc j) v d =
    elim (set_either xs k j v d) [ inl e ↦ inl e | inr e ↦ inr (ap suc e.0, e.1) ]

-- a customer that is set anew with its notice as it was
notice_kept : (cs : List Customer) (k j : ℕ) (v d : Customer) → v.notice ≡ (get_or cs k d).notice → (get_or (set cs k v) j d).notice ≡ (get_or cs j d).notice
notice_kept cs k j v d same =
    elim (set_either cs k j v d) [
      | inl e ↦ ap (λ c. c.notice) e
      | inr e ↦ ap (λ c. c.notice) e.1 ∙ same ∙ ap (λ l. (get_or cs l d).notice) (sym e.0)
    ]

or_none : (b : Bool) → b ≡ b || false
or_none true = refl
or_none false = refl

module _ (s : State) where
  deal_notice : (d : Deal) (n : ℕ) → (get_or (deal_moves s d) (n - 1) no_customer).notice ≡ under_notice s n
  deal_notice d n =
      let buyer = with_positions (customer s d.buyer) (shifted s d.buyer d.series (pos d.count)) in
      let once = set s.customers (d.buyer - 1) buyer in
      let bought = notice_kept s.customers (d.buyer - 1) (n - 1) buyer no_customer refl in
      notice_kept once (d.seller - 1) (n - 1) _ no_customer (sym (notice_kept s.customers (d.buyer - 1) (d.seller - 1) buyer no_customer refl)) ∙ bought

  -- before anybody is lifted
  pub notice_moved : (c : Call) (n : ℕ) → length s.customers ≡ customers → is_customer n ≡ true → under_notice (moved s c) n ≡ under_notice s n || newly_called s c n
  notice_moved call.Begin n wide is = or_none (under_notice s n)
  notice_moved (call.Enrol c b) n wide is = notice_kept s.customers (c - 1) (n - 1) (under_broker (customer s c) b) no_customer refl ∙ or_none (under_notice s n)
  notice_moved (call.List size limit i price fee) n wide is = or_none (under_notice s n)
  notice_moved (call.Deposit k a) n wide is = or_none (under_notice s n)
  notice_moved (call.Withdraw k a) n wide is = or_none (under_notice s n)
  notice_moved (call.Trade b o i m q) n wide is = deal_notice (trade_deal b o i m q) n ∙ or_none (under_notice s n)
  notice_moved call.Late n wide is = or_none (under_notice s n)
  notice_moved call.Shut n wide is = or_none (under_notice s n)
  notice_moved (call.Mark i q) n wide is = or_none (under_notice s n)
  notice_moved (call.Final i q) n wide is =
      ap (λ c. c.notice) (get_or-map (λ c. with_positions c (set c.positions (i - 1) (pos 0))) s.customers (n - 1) no_customer no_customer (omega (arith, seat n is, wide))) ∙ or_none (under_notice s n)
  notice_moved (call.Force c o i offer q) n wide is = deal_notice (force_deal s c o i offer q) n ∙ or_none (under_notice s n)
  notice_moved (call.Cover c) n wide is = or_none (under_notice s n)
  notice_moved call.Notices n wide is =
      ap (λ c. c.notice) (get_or-map-range_with_len (λ n. noted (customer s n) (under_notice s n || newly_called s call.Notices n)) 1 customers (n - 1) n no_customer (seat n is).1 (omega (arith, seat n is)))

  -- and after
  lifted_row : (n : ℕ) → is_customer n ≡ true → customer (lift s) n ≡ noted (customer s n) (under_notice s n && not (at_initial s n))
  lifted_row n is =
      get_or-map-range_with_len (λ n. noted (customer s n) (under_notice s n && not (at_initial s n))) 1 customers (n - 1) n no_customer (seat n is).1 (omega (arith, seat n is))

  pub notice_lifted : (n : ℕ) → is_customer n ≡ true → under_notice (lift s) n ≡ under_notice s n && not (at_initial s n)
  notice_lifted n is = ap (λ c. c.notice) (lifted_row n is)

  pub positions_lifted : (n : ℕ) → is_customer n ≡ true → (customer (lift s) n).positions ≡ (customer s n).positions
  positions_lifted n is = ap (λ c. c.positions) (lifted_row n is)

  -- there are always as many customers
  pub wide_moved : (c : Call) → length s.customers ≡ customers → length (customers_after s c) ≡ customers
  wide_moved call.Begin wide = wide
  wide_moved (call.Enrol c b) wide = length-set s.customers (c - 1) _ ∙ wide
  wide_moved (call.List size limit i price fee) wide = wide
  wide_moved (call.Deposit n a) wide = wide
  wide_moved (call.Withdraw n a) wide = wide
  wide_moved (call.Trade b o i n q) wide = length-set _ (o - 1) _ ∙ length-set s.customers (b - 1) _ ∙ wide
  wide_moved call.Late wide = wide
  wide_moved call.Shut wide = wide
  wide_moved (call.Mark i q) wide = wide
  wide_moved (call.Final i q) wide = length-map s.customers _ ∙ wide
  wide_moved (call.Force c o i offer q) wide = length-set _ _ _ ∙ length-set s.customers _ _ ∙ wide
  wide_moved (call.Cover c) wide = wide
  wide_moved call.Notices wide = length-map-range_with_len _ 1 customers

  pub wide_lifted : length (lift s).customers ≡ customers
  wide_lifted = length-map-range_with_len _ 1 customers
