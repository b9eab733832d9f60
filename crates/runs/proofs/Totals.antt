-- What a call posts to all accounts together.
use Rattle.std.proofs.Common.{◌≡◌, ℕ, zero, suc, ◌+◌, ◌-◌, ◌<◌, ◌≤◌, Bool, true, false, cond, ◌&&◌, eqb, ltb, leb, List, [], ◌∷◌, map, get_or, ℤ, pos, ◌+ℤ◌, ◌-ℤ◌, ◌*ℤ◌, neg_ℤ, is_some, Some, None, Option, unwrap_or, sym, refl, ap, ◌∙◌, inl, inr, add-zero, suc-add, zero-add, arith}
use lib.IntN.{zero-*ℤ}
use Rattle.std.specs.List.{range_with_len}
use Rattle.std.proofs.lemmas.Bool.{both_ways, eqb-true, lt-leb, le-leb, not-false, and_parts, or_cases, leb-true, ltb-true, and_right}
use Rattle.terms.specs.declared.call.Call.{Call}
use Rattle.terms.specs.declared.call.Call.TheVariants as call
use Rattle.book.specs.Balances.{total}
use Rattle.book.proofs.Added.{linear}
use Rattle.steps.specs.State.{State, customers, house, no_customer, is_customer, is_broker, is_series, customer, series_at, position}
use Rattle.steps.specs.Deals.{Deal, deal_post, gain, fees, force_deal}
use Rattle.steps.specs.Steps.{post, posts, alone, mark_post, covered, refusal, trade_deal, answer}
use Rattle.steps.specs.Refusals.{broker_of}
use Rattle.runs.specs.Money.{cash, paid_in, paid_out}
use Rattle.runs.specs.Trading.{mine}
use Rattle.runs.proofs.Bought.{trade_fits, force_fits}
use Rattle.runs.proofs.Changes.{Brokered}
use Rattle.runs.proofs.Counts.{along}
use Rattle.runs.proofs.Flags.{sizes}
use Rattle.runs.proofs.Ledgers.{over, over_same, over_plus, over_minus, over_none, one_in}
use Rattle.runs.proofs.Posts.{houses}
use Rattle.runs.proofs.Positions.{passed}
use Rattle.runs.proofs.Refused.{not_refused}
use Rattle.runs.proofs.Ring.{+ℤ-*ℤ}
use Rattle.runs.proofs.Rows.{Fits}

total_map : (f : ℕ → ℤ) (ns : List ℕ) → total (map f ns) ≡ over f ns
total_map f [] = refl
total_map f (n ∷ ns) = ap (λ z. f n +ℤ z) (total_map f ns)

pub total_posts : (s : State) (c : Call) → total (posts s c) ≡ over (post s c) (range_with_len 1 house)
unfolding posts
total_posts s c = total_map (post s c) (range_with_len 1 house)

-- along numbers
over_counted : (f g : ℕ → ℤ) (a m : ℕ) → ((n : ℕ) → a ≤ n → n < a + m → f n ≡ g n) → over f (range_with_len a m) ≡ over g (range_with_len a m)
over_counted f g a m e = over_same f g (range_with_len a m) (along (λ n. f n ≡ g n) a m e)

over_split : (f : ℕ → ℤ) (a m k : ℕ) → over f (range_with_len a (m + k)) ≡ over f (range_with_len a m) +ℤ over f (range_with_len (a + m) k)
over_split f a zero k = rw (zero-add k, add-zero a) (omega (arith, linear))
over_split f a (suc m) k =
    ap (λ n. over f (range_with_len a n)) (suc-add m k)
    ∙ ap (λ z. f a +ℤ z) (over_split f (a + 1) m k ∙ ap (λ n. over f (range_with_len (a + 1) m) +ℤ over f (range_with_len n k)) (shifted a m))
    ∙ regroup (f a) (over f (range_with_len (a + 1) m)) (over f (range_with_len (a + suc m) k))
  where
    shifted : (a m : ℕ) → a + 1 + m ≡ a + suc m
    shifted a m = omega arith

    regroup : (x y z : ℤ) → x +ℤ (y +ℤ z) ≡ x +ℤ y +ℤ z
    regroup x y z = omega (arith, linear)

over_times : (f : ℕ → ℤ) (k : ℤ) (ns : List ℕ) → over (λ n. f n *ℤ k) ns ≡ over f ns *ℤ k
over_times f k [] = sym (zero-*ℤ k)
over_times f k (n ∷ ns) = ap (λ z. f n *ℤ k +ℤ z) (over_times f k ns) ∙ sym (+ℤ-*ℤ (f n) (over f ns) k)

one_account : (k : ℕ) (z : ℤ) → 1 ≤ k → k ≤ 64 → over (λ n. mine n k z) (range_with_len 1 house) ≡ z
one_account k z low high = one_in k z 1 house low (omega (arith, houses))

low_of : (n : ℕ) → is_customer n ≡ true → 1 ≤ n
low_of n is = leb-true 1 n (and_parts (leb 1 n) (leb n 56) is).0

high_of : (n : ℕ) → is_customer n ≡ true → n ≤ 56
high_of n is = leb-true n 56 (and_parts (leb 1 n) (leb n 56) is).1

-- a deal moves money and makes none
three : (b o h : Bool) (x y z : ℤ) → (b ≡ true → o ≡ true → ⊥) → (b ≡ true → h ≡ true → ⊥) → (o ≡ true → h ≡ true → ⊥) → cond b x (cond o y (cond h z (pos 0))) ≡ cond b x (pos 0) +ℤ cond o y (pos 0) +ℤ cond h z (pos 0)
three true true h x y z p q r = absurd (p refl refl)
three true false true x y z p q r = absurd (q refl refl)
three true false false x y z p q r = omega (arith, linear)
three false true true x y z p q r = absurd (r refl refl)
three false true false x y z p q r = omega (arith, linear)
three false false true x y z p q r = omega (arith, linear)
three false false false x y z p q r = refl

deal_total : (s : State) (d : Deal) → Fits s d → over (deal_post s d) (range_with_len 1 house) ≡ pos 0
deal_total s d fits =
    let x = series_at s d.series in
    let g = gain x d.count d.price in
    let f = fees x d.count in
    let buyer = one_account d.buyer (g -ℤ f) (low_of d.buyer fits.buyer) (omega (arith, high_of d.buyer fits.buyer)) in
    let seller = one_account d.seller (neg_ℤ g -ℤ f) (low_of d.seller fits.seller) (omega (arith, high_of d.seller fits.seller)) in
    let to_house = one_account 64 (f +ℤ f) (omega arith) (omega arith) in
    over_counted (deal_post s d) (λ n. mine n d.buyer (g -ℤ f) +ℤ mine n d.seller (neg_ℤ g -ℤ f) +ℤ mine n 64 (f +ℤ f)) 1 house
    (λ n low high.
    three (eqb n d.buyer) (eqb n d.seller) (eqb n 64) (g -ℤ f) (neg_ℤ g -ℤ f) (f +ℤ f)
    (λ p q. fits.apart (sym (eqb-true n d.buyer p) ∙ eqb-true n d.seller q))
    (λ p q. absurd (omega (arith, eqb-true n d.buyer p, eqb-true n 64 q, high_of d.buyer fits.buyer)))
    (λ p q. absurd (omega (arith, eqb-true n d.seller p, eqb-true n 64 q, high_of d.seller fits.seller))))
    ∙ over_plus (λ n. mine n d.buyer (g -ℤ f) +ℤ mine n d.seller (neg_ℤ g -ℤ f)) (λ n. mine n 64 (f +ℤ f)) (range_with_len 1 house)
    ∙ ap (λ z. z +ℤ over (λ n. mine n 64 (f +ℤ f)) (range_with_len 1 house)) (over_plus (λ n. mine n d.buyer (g -ℤ f)) (λ n. mine n d.seller (neg_ℤ g -ℤ f)) (range_with_len 1 house))
    ∙ (λ i. buyer i +ℤ seller i +ℤ to_house i)
    ∙ none g f
  where
    none : (g f : ℤ) → (g -ℤ f) +ℤ (neg_ℤ g -ℤ f) +ℤ (f +ℤ f) ≡ pos 0
    none g f = omega (arith, linear)

-- a mark takes of some what it gives to others
mark_total : (s : State) (i q : ℕ) → over (λ n. position s n i) (range_with_len 1 customers) ≡ pos 0 → over (mark_post s i q) (range_with_len 1 house) ≡ pos 0
mark_total s i q level =
    let size = pos (series_at s i).size in
    let step = pos q -ℤ pos (series_at s i).price in
    ap (λ m. over (mark_post s i q) (range_with_len 1 m)) (omega (arith, houses, sizes))
    ∙ over_split (mark_post s i q) 1 customers 8
    ∙ (λ k. (over_counted (mark_post s i q) (λ n. position s n i *ℤ size *ℤ step) 1 customers (λ n low high. ap (λ b. cond b (position s n i *ℤ size *ℤ step) (pos 0)) (λ j. le-leb 1 n low j && le-leb n 56 (omega (arith, sizes)) j))
    ∙ over_times (λ n. position s n i *ℤ size) step (range_with_len 1 customers)
    ∙ ap (λ z. z *ℤ step) (over_times (λ n. position s n i) size (range_with_len 1 customers) ∙ ap (λ z. z *ℤ size) level ∙ zero-*ℤ size) ∙ zero-*ℤ step) k
    +ℤ (over_counted (mark_post s i q) (λ n. pos 0) (1 + customers) 8 (λ n low high. ap (λ b. cond b (position s n i *ℤ size *ℤ step) (pos 0)) (and_right (leb 1 n) (leb n 56) (lt-leb n 56 (omega (arith, sizes)))))
    ∙ over_none (range_with_len (1 + customers) 8)) k)

cover_total : (c b x : ℕ) → is_customer c ≡ true → is_broker b ≡ true → over (λ n. alone c (pos x) n -ℤ alone b (pos x) n) (range_with_len 1 house) ≡ pos 0
cover_total c b x customer broker =
    over_minus (alone c (pos x)) (alone b (pos x)) (range_with_len 1 house)
    ∙ (λ i. one_account c (pos x) (low_of c customer) (omega (arith, high_of c customer)) i -ℤ one_account b (pos x) (omega (arith, leb-true 57 b (and_parts (leb 57 b) (leb b 63) broker).0)) (omega (arith, leb-true b 63 (and_parts (leb 57 b) (leb b 63) broker).1)) i)
    ∙ none (pos x)
  where
    none : (z : ℤ) → z -ℤ z ≡ pos 0
    none z = omega (arith, linear)

-- all postings of an accepted call add up to what it pays in less what it pays out
module _ (s : State) (level : (i : ℕ) → is_series i ≡ true → over (λ n. position s n i) (range_with_len 1 customers) ≡ pos 0) (brokers : (k : ℕ) → Brokered (get_or s.customers k no_customer).broker) where
  nothing : over (λ n. pos 0) (range_with_len 1 house) ≡ pos 0 -ℤ pos 0
  nothing = over_none (range_with_len 1 house)

  pub posted_total : (c : Call) → refusal s c ≡ None → over (post s c) (range_with_len 1 house) ≡ paid_in (cash c (answer s c)) -ℤ paid_out (cash c (answer s c))
  posted_total call.Begin fits = nothing
  posted_total (call.Enrol c b) fits = nothing
  posted_total (call.List size limit i price fee) fits = nothing
  posted_total (call.Deposit k x) fits =
      let whose = or_cases (is_customer k) (is_broker k) (not-false _ (not_refused _ _ (passed s (call.Deposit k x) fits).0)) in
      let low : 1 ≤ k = elim whose [ inl c ↦ low_of k c | inr b ↦ omega (arith, leb-true 57 k (and_parts (leb 57 k) (leb k 63) b).0) ] in
      let high : k ≤ 64 = elim whose [ inl c ↦ omega (arith, high_of k c) | inr b ↦ omega (arith, leb-true k 63 (and_parts (leb 57 k) (leb k 63) b).1) ] in
      one_account k (pos x) low high ∙ whole (pos x)
    where
      whole : (z : ℤ) → z ≡ z -ℤ pos 0
      whole z = omega (arith, linear)
  posted_total (call.Withdraw k x) fits =
      let account = and_parts (ltb 0 k) (leb k 64) (not-false _ (not_refused _ _ (passed s (call.Withdraw k x) fits).0)) in
      one_account k (neg_ℤ (pos x)) (ltb-true 0 k account.0) (leb-true k 64 account.1) ∙ whole (pos x)
    where
      whole : (z : ℤ) → neg_ℤ z ≡ pos 0 -ℤ z
      whole z = omega (arith, linear)
  posted_total (call.Trade b o i n q) fits = deal_total s (trade_deal b o i n q) (trade_fits s b o i n q fits)
  posted_total call.Late fits = nothing
  posted_total call.Shut fits = nothing
  posted_total (call.Mark i q) fits = mark_total s i q (level i (not-false _ (not_refused _ _ (passed s (call.Mark i q) fits).0)))
  posted_total (call.Final i q) fits = mark_total s i q (level i (not-false _ (not_refused _ _ (passed s (call.Final i q) fits).0)))
  posted_total (call.Force c o i offer q) fits = deal_total s (force_deal s c o i offer q) (force_fits s c o i offer q fits)
  posted_total (call.Cover c) fits =
      let entries = passed s (call.Cover c) fits in
      cover_total c (broker_of s c) (covered s c) (not-false _ (not_refused _ _ entries.0)) (is_one (customer s c).broker (not-false _ (not_refused _ _ entries.1.1.0)) (brokers (c - 1)))
    where
      is_one : (o : Option ℕ) → is_some o ≡ true → Brokered o → is_broker (unwrap_or o 0) ≡ true
      is_one None some ok = absurd (both_ways false refl some)
      is_one (Some b) some ok = ok
  posted_total call.Notices fits = nothing
