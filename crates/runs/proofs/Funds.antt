-- The law of money, over a run.
use Rattle.std.proofs.Common.{◌≡◌, ℕ, zero, suc, ◌+◌, ◌-◌, Bool, true, false, cond, ◌&&◌, ◌||◌, eqb, leb, List, [], ◌∷◌, ◌++◌, get_or, ℤ, pos, ◌+ℤ◌, ◌-ℤ◌, nat_abs, Some, None, Ok, Err, sym, refl, ap, ◌∙◌, subst, inl, inr, arith}
use Rattle.std.specs.Option.{option_to_list}
use Rattle.std.proofs.lemmas.Int.{ints}
use Rattle.std.proofs.lemmas.Bool.{both_ways, not-false, and_parts, leb-true, lt-leb, le-leb, lt-ltb, eqb-true}
use Rattle.terms.specs.declared.call.Answer.{Answer}
use Rattle.terms.specs.declared.call.Call.{Call}
use Rattle.terms.specs.declared.call.Call.TheVariants as call
use Rattle.terms.specs.declared.fault.Fault.{Fault}
use Rattle.terms.specs.declared.fault.Fault.TheVariants.{NotEmpty}
use Rattle.book.specs.Balances.{is_account, total}
use Rattle.book.proofs.Added.{linear, total_added}
use Rattle.steps.specs.Phases.{phase_number}
use Rattle.steps.specs.State.{State, customers, is_customer, balance}
use Rattle.steps.specs.Deals.{Deal}
use Rattle.steps.specs.Refusals.{not_empty}
use Rattle.steps.specs.Steps.{post, posts, refusal, next, moved, answer}
use Rattle.runs.specs.Runs.{Event, event, New, Run, new, more}
use Rattle.runs.specs.Trading.{deal_by, deals}
use Rattle.runs.specs.Money.{Cash, none, cash, deposited, withdrawn, received, paid_in, paid_out, summed, over_deals, fee_of, gain_of, worth, is_begin, begun, MoneyLaw}
use Rattle.runs.proofs.Changes.{Dealt, change}
use Rattle.runs.proofs.Keeping.{AllBrokered, brokered_new, brokered_next, dealt_next, began, took}
use Rattle.runs.proofs.Positions.{passed}
use Rattle.runs.proofs.Posts.{length_posts, balance_moved}
use Rattle.runs.proofs.Refused.{not_refused, none_some}
use Rattle.runs.proofs.Totals.{total_posts, posted_total}
use Rattle.runs.proofs.Trading.{Ledger, ledger, net_nought}
use Rattle.runs.proofs.Turning.{Kept, kept_along}
use Rattle.runs.proofs.Values.{deals_append}

-- a book that is empty
empty_at : (k : ℕ) (bs : List ℤ) → not_empty k bs ≡ None → (j : ℕ) → get_or bs j (pos 0) ≡ pos 0
empty_at k [] h j = refl
empty_at k (b ∷ bs) h j = by (eqb (nat_abs b) 0) refl h j (empty_at (k + 1) bs)
  where
    by : (t : Bool) → eqb (nat_abs b) 0 ≡ t → cond t (not_empty (k + 1) bs) (Some (NotEmpty k)) ≡ None → (j : ℕ) → (not_empty (k + 1) bs ≡ None → (j : ℕ) → get_or bs j (pos 0) ≡ pos 0) → get_or (b ∷ bs) j (pos 0) ≡ pos 0
    by true e h zero rest = let size = eqb-true (nat_abs b) 0 e in omega (arith, ints)
    by true e h (suc j) rest = rest h j
    by false e h j rest = none_some (sym h)

empty_total : (bs : List ℤ) → ((j : ℕ) → get_or bs j (pos 0) ≡ pos 0) → total bs ≡ pos 0
empty_total [] e = refl
empty_total (b ∷ bs) e = λ i. e zero i +ℤ empty_total bs (λ j. e (suc j)) i

module _ (s : State) (fits : refusal s call.Begin ≡ None) where
  pub was_shut : began s ≡ false
  was_shut =
      let phase = and_parts (leb 0 (phase_number s.phase)) (leb (phase_number s.phase) 0) (not-false _ (not_refused _ _ (passed s call.Begin fits).0)) in
      lt-leb 1 (phase_number s.phase) (omega (arith, leb-true (phase_number s.phase) 0 phase.1))

  was_empty : (j : ℕ) → get_or s.balances j (pos 0) ≡ pos 0
  was_empty = empty_at 1 s.balances (passed s call.Begin fits).1.0

  empty_balance : (n : ℕ) → balance s n ≡ pos 0
  empty_balance n = ap (λ z. cond (is_account n) z (pos 0)) (was_empty (n - 1)) ∙ either (is_account n)
    where
      either : (b : Bool) → cond b (pos 0) (pos 0) ≡ pos 0
      either true = refl
      either false = refl

begun_is : (c : Call) (a : Answer) → c ≡ call.Begin → is_begin c (Ok a) ≡ true
begun_is c a e = ap (λ x. is_begin x (Ok a)) e

-- an accepted call leaves the room open
stays : (s : State) (c : Call) → refusal s c ≡ None → is_begin c (Ok (answer s c)) ≡ false → began s ≡ true
stays s c fits other =
    elim (took s c fits) [ inl e ↦ absurd (both_ways (is_begin c (Ok (answer s c))) other (begun_is c (answer s c) e)) | inr b ↦ b ]

began_next : (s : State) (c : Call) → refusal s c ≡ None → began (next s c) ≡ true
began_next s call.Begin fits = refl
began_next s (call.Enrol c b) fits = stays s (call.Enrol c b) fits refl
began_next s (call.List size limit i price fee) fits = stays s (call.List size limit i price fee) fits refl
began_next s (call.Deposit n a) fits = stays s (call.Deposit n a) fits refl
began_next s (call.Withdraw n a) fits = stays s (call.Withdraw n a) fits refl
began_next s (call.Trade b o i n q) fits = stays s (call.Trade b o i n q) fits refl
began_next s call.Late fits = refl
began_next s call.Shut fits = refl
began_next s (call.Mark i q) fits = stays s (call.Mark i q) fits refl
began_next s (call.Final i q) fits = stays s (call.Final i q) fits refl
began_next s (call.Force c o i offer q) fits = stays s (call.Force c o i offer q) fits refl
began_next s (call.Cover c) fits = stays s (call.Cover c) fits refl
began_next s call.Notices fits = refl

not_begun : (c : Call) (f : Fault) → is_begin c (Err f) ≡ false
not_begun call.Begin f = refl
not_begun (call.Enrol c b) f = refl
not_begun (call.List size limit i price fee) f = refl
not_begun (call.Deposit n a) f = refl
not_begun (call.Withdraw n a) f = refl
not_begun (call.Trade b o i n q) f = refl
not_begun call.Late f = refl
not_begun call.Shut f = refl
not_begun (call.Mark i q) f = refl
not_begun (call.Final i q) f = refl
not_begun (call.Force c o i offer q) f = refl
not_begun (call.Cover c) f = refl
not_begun call.Notices f = refl

-- what is kept along a run
record Purse (h : List Event) (s : State) (ds : List Deal) : Type 0 where
  dealt : Dealt s ds
  brokers : AllBrokered s.customers
  quiet : began s ≡ false → ((f : Cash → ℤ) → f none ≡ pos 0 → summed f h ≡ pos 0) × (ds ≡ [])
  opened : begun h ≡ began s
  worths : began s ≡ true → (n : ℕ) → is_customer n ≡ true → balance s n ≡ worth s n h ds
  wholes : began s ≡ true → total s.balances ≡ summed paid_in h -ℤ summed paid_out h

purse_new : (s : State) → New s → Purse [] s []
purse_new s n =
    let shut : began s ≡ false = ap (λ p. leb 1 (phase_number p)) n.unopened in
    record {
      dealt = tt;
      brokers = subst AllBrokered (sym n.nobody) (brokered_new customers);
      quiet = λ b. ((λ f z. refl), refl);
      opened = sym shut;
      worths = λ b. absurd (both_ways (began s) shut b);
      wholes = λ b. absurd (both_ways (began s) shut b);
    }

purse_refused : (h : List Event) (s : State) (ds : List Deal) (c : Call) (f : Fault) → Purse h s ds → Purse (event c (Err f) ∷ h) s ds
purse_refused h s ds c f p =
    record {
      dealt = p.dealt;
      brokers = p.brokers;
      quiet = λ b. ((λ g z. (λ i. z i +ℤ (p.quiet b).0 g z i)), (p.quiet b).1);
      opened = ap (λ x. x || begun h) (not_begun c f) ∙ p.opened;
      worths = λ b n is. p.worths b n is ∙ same n;
      wholes = λ b. p.wholes b ∙ whole;
    }
  where
    same : (n : ℕ) → worth s n h ds ≡ worth s n (event c (Err f) ∷ h) ds
    same n = omega (arith, linear)

    whole : summed paid_in h -ℤ summed paid_out h ≡ summed paid_in (event c (Err f) ∷ h) -ℤ summed paid_out (event c (Err f) ∷ h)
    whole = omega (arith, linear)

-- a customer is an account
account_of : (n : ℕ) → is_customer n ≡ true → is_account n ≡ true
account_of n is =
    let parts = and_parts (leb 1 n) (leb n 56) is in
    (λ i. lt-ltb 0 n (leb-true 1 n parts.0) i && le-leb n 64 (omega (arith, leb-true n 56 parts.1)) i)

-- the sums of a call and of those before it, put together
sums : (after before posted in' out' covered fee gained shift ins outs covers fees gains fees' gains' all_fees all_gains : ℤ) → after ≡ before +ℤ posted → before ≡ ins -ℤ outs -ℤ fees +ℤ covers +ℤ gains → fees' ≡ fees → gains' ≡ gains +ℤ shift → posted ≡ in' -ℤ out' -ℤ fee +ℤ covered +ℤ gained +ℤ shift → all_fees ≡ fee +ℤ fees' → all_gains ≡ gained +ℤ gains' → after ≡ (in' +ℤ ins) -ℤ (out' +ℤ outs) -ℤ all_fees +ℤ (covered +ℤ covers) +ℤ all_gains
sums after before posted in' out' covered fee gained shift ins outs covers fees gains fees' gains' all_fees all_gains e1 e2 e3 e4 e5 e6 e7 =
    e1 ∙ (λ i. e2 i +ℤ e5 i)
    ∙ by_gains (ins -ℤ outs -ℤ fees +ℤ covers) (in' -ℤ out' -ℤ fee +ℤ covered) gains gained shift
    ∙ ap (λ z. z +ℤ (gained +ℤ (gains +ℤ shift))) (by_covers (ins -ℤ outs -ℤ fees) (in' -ℤ out' -ℤ fee) covers covered)
    ∙ ap (λ z. z +ℤ (covered +ℤ covers) +ℤ (gained +ℤ (gains +ℤ shift))) (by_fees (ins -ℤ outs) (in' -ℤ out') fees fee)
    ∙ ap (λ z. z -ℤ (fee +ℤ fees) +ℤ (covered +ℤ covers) +ℤ (gained +ℤ (gains +ℤ shift))) (by_cash ins outs in' out')
    ∙ sym (λ i. (in' +ℤ ins) -ℤ (out' +ℤ outs) -ℤ (e6 ∙ ap (λ z. fee +ℤ z) e3) i +ℤ (covered +ℤ covers) +ℤ (e7 ∙ ap (λ z. gained +ℤ z) e4) i)
  where
    by_gains : (x y g h z : ℤ) → x +ℤ g +ℤ (y +ℤ h +ℤ z) ≡ x +ℤ y +ℤ (h +ℤ (g +ℤ z))
    by_gains x y g h z = omega (arith, linear)

    by_covers : (x y g h : ℤ) → x +ℤ g +ℤ (y +ℤ h) ≡ x +ℤ y +ℤ (h +ℤ g)
    by_covers x y g h = omega (arith, linear)

    by_fees : (x y g h : ℤ) → x -ℤ g +ℤ (y -ℤ h) ≡ x +ℤ y -ℤ (h +ℤ g)
    by_fees x y g h = omega (arith, linear)

    by_cash : (i o j p : ℤ) → i -ℤ o +ℤ (j -ℤ p) ≡ (j +ℤ i) -ℤ (p +ℤ o)
    by_cash i o j p = omega (arith, linear)

totals : (after before in' out' ins outs : ℤ) → after ≡ before +ℤ (in' -ℤ out') → before ≡ ins -ℤ outs → after ≡ (in' +ℤ ins) -ℤ (out' +ℤ outs)
totals after before in' out' ins outs e1 e2 = omega (arith, linear)

module _ (h : List Event) (s : State) (ds : List Deal) (c : Call) (p : Purse h s ds) (k : Kept s) (l : Ledger s ds) (fits : refusal s c ≡ None) where
  -- in a room that was open
  worth_open : began s ≡ true → (n : ℕ) → is_customer n ≡ true → balance (next s c) n ≡ worth (next s c) n (event c (Ok (answer s c)) ∷ h) (option_to_list (deal_by s c (answer s c)) ++ ds)
  worth_open b n is =
      let x = change s l.sound ds l.said p.dealt p.brokers n is c fits in
      let t = moved s c in
      let nd = option_to_list (deal_by s c (answer s c)) in
      sums (balance (next s c) n) (balance s n) (post s c n)
      (deposited n (cash c (answer s c))) (withdrawn n (cash c (answer s c))) (received n (cash c (answer s c)))
      (over_deals (fee_of t n) nd) (over_deals (gain_of t n) nd) x.shift
      (summed (deposited n) h) (summed (withdrawn n) h) (summed (received n) h)
      (over_deals (fee_of s n) ds) (over_deals (gain_of s n) ds) (over_deals (fee_of t n) ds) (over_deals (gain_of t n) ds)
      (over_deals (fee_of t n) (nd ++ ds)) (over_deals (gain_of t n) (nd ++ ds))
      (balance_moved s c n k.accounts (account_of n is)) (p.worths b n is) x.fees x.gains x.posts
      (deals_append (fee_of t n) nd ds) (deals_append (gain_of t n) nd ds)

  total_next : total (next s c).balances ≡ total s.balances +ℤ (paid_in (cash c (answer s c)) -ℤ paid_out (cash c (answer s c)))
  total_next =
      total_added s.balances (posts s c) (omega (arith, length_posts s c, k.accounts))
      ∙ ap (λ z. total s.balances +ℤ z) (total_posts s c ∙ posted_total s (net_nought s ds l) p.brokers c fits)

  whole_open : began s ≡ true → total (next s c).balances ≡ summed paid_in (event c (Ok (answer s c)) ∷ h) -ℤ summed paid_out (event c (Ok (answer s c)) ∷ h)
  whole_open b =
      totals (total (next s c).balances) (total s.balances) (paid_in (cash c (answer s c))) (paid_out (cash c (answer s c))) (summed paid_in h) (summed paid_out h) total_next (p.wholes b)

-- the call that opens it: nothing was paid before, and every balance is 0
module _ (h : List Event) (s : State) (ds : List Deal) (p : Purse h s ds) (k : Kept s) (l : Ledger s ds) (fits : refusal s call.Begin ≡ None) where
  calm : (f : Cash → ℤ) → f none ≡ pos 0 → summed f h ≡ pos 0
  calm = (p.quiet (was_shut s fits)).0

  worth_begin : (n : ℕ) → is_customer n ≡ true → balance (next s call.Begin) n ≡ worth (next s call.Begin) n (event call.Begin (Ok (answer s call.Begin)) ∷ h) ds
  worth_begin n is =
      balance_moved s call.Begin n k.accounts (account_of n is) ∙ ap (λ z. z +ℤ pos 0) (empty_balance s fits n)
      ∙ sym (subst (λ xs. worth (next s call.Begin) n (event call.Begin (Ok (answer s call.Begin)) ∷ h) xs ≡ pos 0) (sym (p.quiet (was_shut s fits)).1)
      (λ i. (pos 0 +ℤ calm (deposited n) refl i) -ℤ (pos 0 +ℤ calm (withdrawn n) refl i) -ℤ pos 0 +ℤ (pos 0 +ℤ calm (received n) refl i) +ℤ pos 0))

  whole_begin : total (next s call.Begin).balances ≡ summed paid_in (event call.Begin (Ok (answer s call.Begin)) ∷ h) -ℤ summed paid_out (event call.Begin (Ok (answer s call.Begin)) ∷ h)
  whole_begin =
      total_next h s ds call.Begin p k l fits ∙ ap (λ z. z +ℤ (pos 0 -ℤ pos 0)) (empty_total s.balances (was_empty s fits))
      ∙ sym (λ i. (pos 0 +ℤ calm paid_in refl i) -ℤ (pos 0 +ℤ calm paid_out refl i))

or_true : (b : Bool) → (b || true) ≡ true
or_true true = refl
or_true false = refl

purse_next : (h : List Event) (s : State) (ds : List Deal) (c : Call) → Purse h s ds → Kept s → Ledger s ds → refusal s c ≡ None → Purse (event c (Ok (answer s c)) ∷ h) (next s c) (option_to_list (deal_by s c (answer s c)) ++ ds)
purse_next h s ds c p k l fits =
    record {
      dealt = dealt_next s c ds fits p.dealt;
      brokers = brokered_next s c fits p.brokers;
      quiet = λ shut. absurd (both_ways (began (next s c)) shut (began_next s c fits));
      opened =
          elim (took s c fits) [
            | inl e ↦ ap (λ b. b || begun h) (begun_is c (answer s c) e) ∙ sym (began_next s c fits)
            | inr b ↦ ap (λ x. is_begin c (Ok (answer s c)) || x) (p.opened ∙ b) ∙ or_true (is_begin c (Ok (answer s c))) ∙ sym (began_next s c fits)
          ];
      worths = λ opened n is.
          elim (took s c fits) [
            | inl e ↦ subst (λ x. refusal s x ≡ None → balance (next s x) n ≡ worth (next s x) n (event x (Ok (answer s x)) ∷ h) (option_to_list (deal_by s x (answer s x)) ++ ds)) (sym e) (λ f. worth_begin h s ds p k l f n is) fits
            | inr b ↦ worth_open h s ds c p k l fits b n is
          ];
      wholes = λ opened.
          elim (took s c fits) [
            | inl e ↦ subst (λ x. refusal s x ≡ None → total (next s x).balances ≡ summed paid_in (event x (Ok (answer s x)) ∷ h) -ℤ summed paid_out (event x (Ok (answer s x)) ∷ h)) (sym e) (λ f. whole_begin h s ds p k l f) fits
            | inr b ↦ whole_open h s ds c p k l fits b
          ];
    }

purse : {h : List Event} {s : State} (r : Run h s) → Purse h s (deals h s r)
purse (new {s = s} n) = purse_new s n
purse (more {h = h} {s = s} {s' = s'} c (Ok a) r d) =
    subst (λ x. Purse (event c (Ok a) ∷ h) x (option_to_list (deal_by s c a) ++ deals h s r)) (sym d.2)
    (subst (λ x. Purse (event c (Ok x) ∷ h) (next s c) (option_to_list (deal_by s c x) ++ deals h s r)) (sym d.1) (purse_next h s (deals h s r) c (purse r) (kept_along r) (ledger r) d.0))
purse (more {h = h} {s = s} {s' = s'} c (Err f) r d) =
    subst (λ x. Purse (event c (Err f) ∷ h) x (deals h s r)) (sym d.1) (purse_refused h s (deals h s r) c f (purse r))

pub money_law : MoneyLaw
money_law h s r =
    let p = purse r in
    record { balances = λ b. p.worths (sym p.opened ∙ b); whole = λ b. p.wholes (sym p.opened ∙ b) }
