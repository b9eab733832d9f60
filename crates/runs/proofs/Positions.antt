-- No position of a customer under notice grows or changes its side.
use Rattle.std.proofs.Common.{◌≡◌, ℕ, zero, suc, ◌+◌, ◌-◌, ◌≤◌, min, Bool, true, false, cond, not, ◌&&◌, ◌||◌, eqb, ltb, leb, ◌⊎◌, [], ◌∷◌, ◌++◌, length, get_or, set, ℤ, pos, ◌+ℤ◌, neg_ℤ, nat_abs, is_some, Some, None, sym, refl, ap, subst, inl, inr, arith}
use Rattle.std.specs.List.{AllByRecursion}
use Rattle.std.proofs.lemmas.List.FromFn.{get_or-map-range_with_len}
use Rattle.std.proofs.lemmas.List.{get_or-map}
use Rattle.std.proofs.lemmas.Bool.{both_ways, eq-eqb, eqb-false, cases_Bool, leb-true, or_parts}
use Rattle.terms.specs.declared.call.Call.{Call}
use Rattle.terms.specs.declared.call.Call.TheVariants as call
use Rattle.terms.specs.Ranges.{in_range}
use Rattle.steps.specs.State.{State, Customer, customers, no_customer, is_customer, customer, position, series_at, under_notice}
use Rattle.steps.specs.Deals.{Deal, deal_moves, with_positions, shifted, closes, is_long, enough, first_from, forced, force_deal, bought, sold}
use Rattle.steps.specs.Refusals.{room_refusals, book_refuses, party, counterparty}
use Rattle.steps.specs.Steps.{noted, under_broker, newly_called, moved, posts, refusal, trade_deal}
use Rattle.runs.specs.Notices.{Shrunk}
use Rattle.runs.proofs.Flags.{set_either, seat}
use Rattle.runs.proofs.Refused.{all_none, all_front, not_refused, closes_or}
use Rattle.runs.proofs.Signs.{unmoved, to_nought, closing_shrinks, sells, buys}

pub passed : (s : State) (c : Call) → refusal s c ≡ None → AllByRecursion (λ o. o ≡ None) (room_refusals s c ++ (book_refuses s (posts s c) ∷ []))
passed s c accepted = all_none (room_refusals s c ++ (book_refuses s (posts s c) ∷ [])) accepted

-- a position of a row
abbrev held : Customer → ℕ → ℤ
held c i = get_or c.positions (i - 1) (pos 0)

-- a party of an accepted deal, whose position moves so: it closes, or it is neither under notice nor past the limit
abbrev pub Stands : State → ℕ → ℕ → ℤ → Type 0
Stands s p i by =
    (closes (position s p i) by ≡ true) ⊎ ((under_notice s p ≡ false) × (ltb (series_at s i).limit (nat_abs (position s p i +ℤ by)) ≡ false))

abbrev pub Agreed : State → Deal → Type 0
Agreed s d = Stands s d.buyer d.series (pos d.count) × Stands s d.seller d.series (neg_ℤ (pos d.count))

module _ (s : State) where
  stands_close : (p i : ℕ) (by : ℤ) → Stands s p i by → under_notice s p ≡ true → closes (position s p i) by ≡ true
  stands_close p i by h under = elim h [ inl e ↦ e | inr e ↦ absurd (both_ways (under_notice s p) e.0 under) ]

  -- one position of a customer moved, seen at any series
  moved_one : (p series : ℕ) (by : ℤ) (i : ℕ) → Shrunk (position s p series) (position s p series +ℤ by) → Shrunk (position s p i) (get_or (shifted s p series by) (i - 1) (pos 0))
  moved_one p series by i shrinks =
      elim (set_either (customer s p).positions (series - 1) (i - 1) (position s p series +ℤ by) (pos 0)) [
        | inl e ↦ subst (Shrunk (position s p i)) (sym e) (unmoved (position s p i))
        | inr e ↦
            subst (Shrunk (position s p i)) (sym e.1)
            (subst (λ k. Shrunk (get_or (customer s p).positions k (pos 0)) (position s p series +ℤ by)) (sym e.0) shrinks)
      ]

  -- a customer at the place of a party
  at_place : (n p i : ℕ) (w : ℤ) → n - 1 ≡ p - 1 → Shrunk (position s p i) w → Shrunk (position s n i) w
  at_place n p i w e h = subst (λ k. Shrunk (held (get_or s.customers k no_customer) i) w) (sym e) h

  under_place : (n p : ℕ) → n - 1 ≡ p - 1 → under_notice s n ≡ true → under_notice s p ≡ true
  under_place n p e h = subst (λ k. (get_or s.customers k no_customer).notice ≡ true) e h

  deal_shrinks : (d : Deal) → (under_notice s d.buyer ≡ true → closes (position s d.buyer d.series) (pos d.count) ≡ true) → (under_notice s d.seller ≡ true → closes (position s d.seller d.series) (neg_ℤ (pos d.count)) ≡ true) → (n i : ℕ) → under_notice s n ≡ true → Shrunk (position s n i) (held (get_or (deal_moves s d) (n - 1) no_customer) i)
  deal_shrinks d buyer_closes seller_closes n i under =
      let buyer = with_positions (customer s d.buyer) (shifted s d.buyer d.series (pos d.count)) in
      let seller = with_positions (customer s d.seller) (shifted s d.seller d.series (neg_ℤ (pos d.count))) in
      elim (set_either (set s.customers (d.buyer - 1) buyer) (d.seller - 1) (n - 1) seller no_customer) [
        | inr e ↦
            subst (λ c. Shrunk (position s n i) (held c i)) (sym e.1)
            (at_place n d.seller i _ e.0 (moved_one d.seller d.series (neg_ℤ (pos d.count)) i (closing_shrinks _ _ (seller_closes (under_place n d.seller e.0 under)))))
        | inl e ↦
            subst (λ c. Shrunk (position s n i) (held c i)) (sym e)
            (elim (set_either s.customers (d.buyer - 1) (n - 1) buyer no_customer) [
              | inr f ↦
                  subst (λ c. Shrunk (position s n i) (held c i)) (sym f.1)
                  (at_place n d.buyer i _ f.0 (moved_one d.buyer d.series (pos d.count) i (closing_shrinks _ _ (buyer_closes (under_place n d.buyer f.0 under)))))
              | inl f ↦ subst (λ c. Shrunk (position s n i) (held c i)) (sym f) (unmoved (position s n i))
            ])
      ]

  agreed_shrinks : (d : Deal) → Agreed s d → (n i : ℕ) → under_notice s n ≡ true → Shrunk (position s n i) (held (get_or (deal_moves s d) (n - 1) no_customer) i)
  agreed_shrinks d agreed = deal_shrinks d (stands_close d.buyer d.series _ agreed.0) (stands_close d.seller d.series _ agreed.1)

  enrol_keeps : (c b n i : ℕ) → Shrunk (position s n i) (held (get_or (set s.customers (c - 1) (under_broker (customer s c) b)) (n - 1) no_customer) i)
  enrol_keeps c b n i =
      elim (set_either s.customers (c - 1) (n - 1) (under_broker (customer s c) b) no_customer) [
        | inl e ↦ subst (λ x. Shrunk (position s n i) (held x i)) (sym e) (unmoved (position s n i))
        | inr e ↦ subst (λ x. Shrunk (position s n i) (held x i)) (sym e.1) (at_place n c i _ e.0 (unmoved (position s c i)))
      ]

  pub trade_agreed : (b o i m q : ℕ) → refusal s (call.Trade b o i m q) ≡ None → Agreed s (trade_deal b o i m q)
  trade_agreed b o i m q accepted =
      let of_buyer = (passed s (call.Trade b o i m q) accepted).1.1.1.1.1.1.1.1.1 in
      let of_seller = of_buyer.1.1.1 in
      (closes_or _ _ _ _ _ of_buyer.0 of_buyer.1.0, closes_or _ _ _ _ _ of_seller.0 of_seller.1.0)

  trade_shrinks : (b o i m q : ℕ) → refusal s (call.Trade b o i m q) ≡ None → (n j : ℕ) → under_notice s n ≡ true → Shrunk (position s n j) (position (moved s (call.Trade b o i m q)) n j)
  trade_shrinks b o i m q accepted = agreed_shrinks (trade_deal b o i m q) (trade_agreed b o i m q accepted)

-- the count that force takes is at most the position
pub first_within : (p : ℕ → Bool) (k more : ℕ) → first_from p k more ≤ k + more
first_within p k zero = omega arith
first_within p k (suc more) = by (p k) (first_within p (k + 1) more)
  where
    by : (b : Bool) → first_from p (k + 1) more ≤ k + 1 + more → cond b k (first_from p (k + 1) more) ≤ k + suc more
    by true h = omega arith
    by false h = omega arith

forced_within : (s : State) (c i offer q : ℕ) → 1 ≤ offer → 1 ≤ nat_abs (position s c i) → forced s c i offer q ≤ nat_abs (position s c i)
unfolding forced
forced_within s c i offer q some held =
    let most = min offer (nat_abs (position s c i)) in
    let h = first_within (enough s c i q) 1 (most - 1) in
    omega arith

-- a number that was not found out of range
in_range_low : (low high n : ℕ) → not (is_some (in_range low high n)) ≡ false → low ≤ n
in_range_low low high n h = by (leb low n) refl h
  where
    by : (b : Bool) → leb low n ≡ b → not (is_some (cond (b && leb n high) (Some n) None)) ≡ false → low ≤ n
    by true e t = leb-true low n e
    by false e t = absurd (let z : ◌≡◌ {A = ℕ} 0 1 = cc in omega arith)

module _ (s : State) (c o i offer q : ℕ) (accepted : refusal s (call.Force c o i offer q) ≡ None) where
  entries : AllByRecursion (λ r. r ≡ None) (room_refusals s (call.Force c o i offer q) ++ (book_refuses s (posts s (call.Force c o i offer q)) ∷ []))
  entries = passed s (call.Force c o i offer q) accepted

  apart : eqb c o ≡ false
  apart = not_refused (eqb c o) _ entries.1.1.1.1.0

  within : forced s c i offer q ≤ nat_abs (position s c i)
  within =
      let ranges = or_parts _ _ (not_refused _ _ entries.1.1.1.0) in
      let there = or_parts (not (under_notice s c)) (eqb (nat_abs (position s c i)) 0) (not_refused _ _ entries.1.1.1.1.1.1.1.1.1.0) in
      forced_within s c i offer q (in_range_low 1 1000 offer ranges.0) (let some = eqb-false (nat_abs (position s c i)) 0 there.1 in omega arith)

  -- the deal as the position's side makes it: the other party buys of a long one, and sells to a short one
  from_long : Deal
  from_long = record { buyer = o; seller = c; series = i; count = forced s c i offer q; price = q }

  to_short : Deal
  to_short = record { buyer = c; seller = o; series = i; count = forced s c i offer q; price = q }

  of_other : (d : Deal) → force_deal s c o i offer q ≡ d → AllByRecursion (λ r. r ≡ None) (counterparty s o i d)
  of_other d is =
      subst (λ x. AllByRecursion (λ r. r ≡ None) (counterparty s o i x)) is
      (all_front (counterparty s o i (force_deal s c o i offer q)) _ entries.1.1.1.1.1.1.1.1.1.1)

  -- the first party closes, the other stands
  pub force_agreed : Agreed s (force_deal s c o i offer q)
  unfolding from_long to_short
  force_agreed =
      let count = forced s c i offer q in
      let buying = party s o i (pos count) (bought (series_at s i) count q) in
      let selling = party s o i (neg_ℤ (pos count)) (sold (series_at s i) count q) in
      elim (cases_Bool (is_long (position s c i))) [
        | inl long ↦
            let is : force_deal s c o i offer q ≡ from_long = ap (λ b. cond b from_long to_short) long in
            let other = subst (AllByRecursion (λ r. r ≡ None)) (ap (λ t. cond t buying selling) (eq-eqb o o refl)) (of_other from_long is) in
            subst (Agreed s) (sym is) (closes_or _ _ _ _ _ other.0 other.1.0, inl (sells (position s c i) count long within))
        | inr short ↦
            let is : force_deal s c o i offer q ≡ to_short = ap (λ b. cond b from_long to_short) short in
            let other = subst (AllByRecursion (λ r. r ≡ None)) (ap (λ t. cond t buying selling) apart) (of_other to_short is) in
            subst (Agreed s) (sym is) (inl (buys (position s c i) count short within), closes_or _ _ _ _ _ other.0 other.1.0)
      ]

  pub force_shrinks : (n j : ℕ) → under_notice s n ≡ true → Shrunk (position s n j) (position (moved s (call.Force c o i offer q)) n j)
  force_shrinks = agreed_shrinks s (force_deal s c o i offer q) force_agreed

-- a position that is set to nought
final_shrinks : (c : Customer) (i j : ℕ) → Shrunk (held c j) (get_or (set c.positions (i - 1) (pos 0)) (j - 1) (pos 0))
final_shrinks c i j =
    elim (set_either c.positions (i - 1) (j - 1) (pos 0) (pos 0)) [
      | inl e ↦ subst (Shrunk (held c j)) (sym e) (unmoved (held c j))
      | inr e ↦ subst (Shrunk (held c j)) (sym e.1) (to_nought (held c j))
    ]

pub shrinks_moved : (s : State) (c : Call) → length s.customers ≡ customers → refusal s c ≡ None → (n j : ℕ) → is_customer n ≡ true → under_notice s n ≡ true → Shrunk (position s n j) (position (moved s c) n j)
shrinks_moved s call.Begin wide accepted n j is under = unmoved (position s n j)
shrinks_moved s (call.Enrol c b) wide accepted n j is under = enrol_keeps s c b n j
shrinks_moved s (call.List size limit i price fee) wide accepted n j is under = unmoved (position s n j)
shrinks_moved s (call.Deposit k a) wide accepted n j is under = unmoved (position s n j)
shrinks_moved s (call.Withdraw k a) wide accepted n j is under = unmoved (position s n j)
shrinks_moved s (call.Trade b o i m q) wide accepted n j is under = trade_shrinks s b o i m q accepted n j under
shrinks_moved s call.Late wide accepted n j is under = unmoved (position s n j)
shrinks_moved s call.Shut wide accepted n j is under = unmoved (position s n j)
shrinks_moved s (call.Mark i q) wide accepted n j is under = unmoved (position s n j)
shrinks_moved s (call.Final i q) wide accepted n j is under =
    subst (λ c. Shrunk (position s n j) (held c j))
    (sym (get_or-map (λ c. with_positions c (set c.positions (i - 1) (pos 0))) s.customers (n - 1) no_customer no_customer (omega (arith, seat n is, wide))))
    (final_shrinks (customer s n) i j)
shrinks_moved s (call.Force c o i offer q) wide accepted n j is under = force_shrinks s c o i offer q accepted n j under
shrinks_moved s (call.Cover c) wide accepted n j is under = unmoved (position s n j)
shrinks_moved s call.Notices wide accepted n j is under =
    subst (λ c. Shrunk (position s n j) (held c j))
    (sym (get_or-map-range_with_len (λ n. noted (customer s n) (under_notice s n || newly_called s call.Notices n)) 1 customers (n - 1) n no_customer (seat n is).1 (omega (arith, seat n is))))
    (unmoved (position s n j))
