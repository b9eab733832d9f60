-- The law of notices, call by call and over a run.
use Rattle.std.proofs.Common.{◌≡◌, ℕ, ◌+◌, ◌-◌, Bool, true, false, cond, not, ◌&&◌, ◌||◌, leb, List, length, get_or, pos, None, Ok, Err, count_by, sym, refl, ap, ◌∙◌, subst, arith}
use lib.IntN.{+ℤ_idr}
use lib.ListN.{length-replicate}
use Rattle.std.specs.List.{range_with_len}
use Rattle.std.proofs.lemmas.List.FromFn.{get_or-map-range_with_len}
use Rattle.std.proofs.lemmas.List.{get_or-replicate}
use Rattle.std.proofs.lemmas.Bool.{both_ways, and_parts, leb-true, lt-ltb, le-leb}
use Rattle.terms.specs.declared.call.Answer.{Answer}
use Rattle.terms.specs.declared.call.Call.{Call}
use Rattle.terms.specs.declared.call.Call.TheVariants as call
use Rattle.terms.specs.declared.fault.Fault.{Fault}
use Rattle.book.specs.Balances.{is_account}
use Rattle.book.proofs.Added.{length_added}
use Rattle.margin.specs.Laws.{Lawful}
use Rattle.steps.specs.State.{State, customers, house, all_series, no_customer, is_customer, customer, position, balance, under_notice}
use Rattle.steps.specs.Margins.{margins, reaches, at_initial, below_minimum}
use Rattle.steps.specs.Steps.{refusal, next, moved, answer, freed, newly_called as newly, noted, posts}
use Rattle.runs.specs.Runs.{Event, New, Run, new, more}
use Rattle.runs.specs.Notices.{Shrunk, Turns, newly_in, lifted_in, still_under, Noticed, NoticeLaw}
use Rattle.runs.proofs.Counts.{counted_apart, counted_none, all_customers, and_apart}
use Rattle.runs.proofs.Flags.{seat, notice_moved, notice_lifted, positions_lifted, wide_lifted}
use Rattle.runs.proofs.Margins.{asks_fair, short_of_both, asks_cleared}
use Rattle.runs.proofs.Positions.{shrinks_moved}
use Rattle.runs.proofs.Posts.{balance_moved}
use Rattle.runs.proofs.Signs.{unmoved}

-- what every state of a run keeps
pub record Kept (s : State) : Type 0 where
  pub wide : length s.customers ≡ customers
  pub accounts : length s.balances ≡ house
  pub rule : Lawful s.rule

pub kept_new : (s : State) → New s → Kept s
kept_new s n = record { wide = ap length n.nobody ∙ length-replicate customers no_customer; accounts = n.accounts; rule = n.rule }

pub kept_next : (s : State) (c : Call) → Kept s → Kept (next s c)
kept_next s c k = record { wide = wide_lifted (moved s c); accounts = length_added s.balances (posts s c) ∙ k.accounts; rule = k.rule }

-- only notices calls anybody, and only below the minimum margin
newly_only : (s : State) (c : Call) (n : ℕ) → newly s c n ≡ true → (c ≡ call.Notices) × ((under_notice s n ≡ false) × (below_minimum s n ≡ true))
newly_only s call.Begin n h = absurd (both_ways false refl h)
newly_only s (call.Enrol c b) n h = absurd (both_ways false refl h)
newly_only s (call.List size limit i price fee) n h = absurd (both_ways false refl h)
newly_only s (call.Deposit k a) n h = absurd (both_ways false refl h)
newly_only s (call.Withdraw k a) n h = absurd (both_ways false refl h)
newly_only s (call.Trade b o i m q) n h = absurd (both_ways false refl h)
newly_only s call.Late n h = absurd (both_ways false refl h)
newly_only s call.Shut n h = absurd (both_ways false refl h)
newly_only s (call.Mark i q) n h = absurd (both_ways false refl h)
newly_only s (call.Final i q) n h = absurd (both_ways false refl h)
newly_only s (call.Force c o i offer q) n h = absurd (both_ways false refl h)
newly_only s (call.Cover c) n h = absurd (both_ways false refl h)
newly_only s call.Notices n h =
    let parts = and_parts (not (under_notice s n)) (below_minimum s n) h in
    (refl, (not_true (under_notice s n) parts.0, parts.1))
  where
    not_true : (b : Bool) → not b ≡ true → b ≡ false
    not_true true e = sym e
    not_true false e = refl

-- the flags as they were, as they are called and as they are lifted
comes_by : (was called safe : Bool) → ((was || called) && not safe) ≡ true → was ≡ false → called ≡ true
comes_by true called safe h free = absurd (both_ways true free refl)
comes_by false true safe h free = refl
comes_by false false safe h free = absurd (both_ways false refl h)

leaves_by : (was called safe : Bool) → ((was || called) && not safe) ≡ false → was ≡ true → safe ≡ true
leaves_by true called true h under = refl
leaves_by true called false h under = absurd (both_ways true h refl)
leaves_by false called safe h under = absurd (both_ways false refl under)

lifted_by : (flag safe : Bool) → safe ≡ true → (flag && not safe) ≡ false
lifted_by true true h = refl
lifted_by true false h = absurd (both_ways false refl h)
lifted_by false safe h = refl

module _ (s : State) (c : Call) (k : Kept s) where
  -- the margin that a customer ends with is that before anybody is lifted
  initial_lifted : (n : ℕ) → is_customer n ≡ true → at_initial (next s c) n ≡ at_initial (moved s c) n
  initial_lifted n is = ap (λ ps. reaches (balance (moved s c) n) (margins (moved s c) ps).0) (positions_lifted (moved s c) n is)

  notice_next : (n : ℕ) → is_customer n ≡ true → under_notice (next s c) n ≡ (under_notice s n || newly s c n) && not (at_initial (next s c) n)
  notice_next n is =
      notice_lifted (moved s c) n is
      ∙ (λ i. notice_moved s c n k.wide is i && not (sym (initial_lifted n is) i))

-- a customer that notices finds below its minimum margin is not lifted by it
still_short : (s : State) → Kept s → (n : ℕ) → is_customer n ≡ true → below_minimum s n ≡ true → at_initial (moved s call.Notices) n ≡ false
still_short s k n is short =
    let parts = and_parts (leb 1 n) (leb n 56) is in
    let account : is_account n ≡ true = (λ i. lt-ltb 0 n (leb-true 1 n parts.0) i && le-leb n 64 (omega (arith, leb-true n 56 parts.1)) i) in
    let paid : balance (moved s call.Notices) n ≡ balance s n = balance_moved s call.Notices n k.accounts account ∙ +ℤ_idr (balance s n) in
    let row = get_or-map-range_with_len (λ n. noted (customer s n) (under_notice s n || newly s call.Notices n)) 1 customers (n - 1) n no_customer (seat n is).1 (omega (arith, seat n is)) in
    let same : margins (moved s call.Notices) (customer (moved s call.Notices) n).positions ≡ margins s (customer s n).positions =
    ap (λ c. margins (moved s call.Notices) c.positions) row ∙ asks_cleared s.rule s.series (customer s n).positions all_series in
    (λ i. reaches (paid i) (same i).0)
    ∙ short_of_both (balance s n) (margins s (customer s n).positions).0 (margins s (customer s n).positions).1
    (asks_fair s.rule k.rule s.series (customer s n).positions all_series) short

-- one accepted call
accepted_turns : (s : State) (c : Call) (a : Answer) → Kept s → refusal s c ≡ None → Turns s c (Ok a) (next s c)
accepted_turns s c a k fits =
    record {
      comes = λ n is free under.
          let only = newly_only s c n (comes_by (under_notice s n) (newly s c n) (at_initial (next s c) n) (sym (notice_next s c k n is) ∙ under) free) in
          (refl, only.0, only.1.1);
      called = λ n is free ok notices short.
          subst (λ x. under_notice (next s x) n ≡ true) (sym notices)
          (notice_next s call.Notices k n is
          ∙ (λ i. (free i || (not (free i) && short i)) && not ((initial_lifted s call.Notices k n is ∙ still_short s k n is short) i)));
      leaves = λ n is under free.
          (refl, leaves_by (under_notice s n) (newly s c n) (at_initial (next s c) n) (sym (notice_next s c k n is) ∙ free) under);
      lifted = λ n is ok safe.
          notice_next s c k n is ∙ lifted_by (under_notice s n || newly s c n) (at_initial (next s c) n) safe;
      shrinks = λ n i is under.
          subst (λ ps. Shrunk (position s n i) (get_or ps (i - 1) (pos 0))) (sym (positions_lifted (moved s c) n is)) (shrinks_moved s c k.wide fits n i is under);
    }

-- a refused call turns nothing
refused_turns : (s : State) (c : Call) (f : Fault) → Turns s c (Err f) s
refused_turns s c f =
    record {
      comes = λ n is free under. absurd (both_ways (under_notice s n) free under);
      called = λ n is free ok notices short. absurd (both_ways false refl ok);
      leaves = λ n is under free. absurd (both_ways (under_notice s n) free under);
      lifted = λ n is ok safe. absurd (both_ways false refl ok);
      shrinks = λ n i is under. unmoved (position s n i);
    }

-- newly called, lifted and still under notice, in one accepted call
nobody : (s : State) (c : Call) → ((n : ℕ) → newly s c n ≡ false) → 0 ≡ count_by (newly s c) (range_with_len 1 customers)
nobody s c none = sym (counted_none (newly s c) (range_with_len 1 customers) (all_customers _ (λ n is. none n)))

newly_counted : (s : State) (c : Call) → newly_in c (Ok (answer s c)) ≡ count_by (newly s c) (range_with_len 1 customers)
newly_counted s call.Begin = nobody s call.Begin (λ n. refl)
newly_counted s (call.Enrol c b) = nobody s (call.Enrol c b) (λ n. refl)
newly_counted s (call.List size limit i price fee) = nobody s (call.List size limit i price fee) (λ n. refl)
newly_counted s (call.Deposit k a) = nobody s (call.Deposit k a) (λ n. refl)
newly_counted s (call.Withdraw k a) = nobody s (call.Withdraw k a) (λ n. refl)
newly_counted s (call.Trade b o i m q) = nobody s (call.Trade b o i m q) (λ n. refl)
newly_counted s call.Late = nobody s call.Late (λ n. refl)
newly_counted s call.Shut = nobody s call.Shut (λ n. refl)
newly_counted s (call.Mark i q) = nobody s (call.Mark i q) (λ n. refl)
newly_counted s (call.Final i q) = nobody s (call.Final i q) (λ n. refl)
newly_counted s (call.Force c o i offer q) = nobody s (call.Force c o i offer q) (λ n. refl)
newly_counted s (call.Cover c) = nobody s (call.Cover c) (λ n. refl)
newly_counted s call.Notices = refl

-- a customer is called only if it was not under notice
called_apart : (s : State) (c : Call) (n : ℕ) → cond (under_notice s n || newly s c n) 1 0 ≡ cond (under_notice s n) 1 0 + cond (newly s c n) 1 0
called_apart s c n = by (under_notice s n) (newly s c n) (λ h. (newly_only s c n h).1.0)
  where
    by : (was called : Bool) → (called ≡ true → was ≡ false) → cond (was || called) 1 0 ≡ cond was 1 0 + cond called 1 0
    by true true apart = absurd (both_ways true (apart refl) refl)
    by true false apart = refl
    by false called apart = zero_plus (cond called 1 0)
      where
        zero_plus : (k : ℕ) → k ≡ 0 + k
        zero_plus k = omega arith

counts : (s : State) (c : Call) → Kept s → still_under s + newly_in c (Ok (answer s c)) ≡ lifted_in (Ok (answer s c)) + still_under (next s c)
counts s c k =
    let all = range_with_len 1 customers in
    let coming = counted_apart (under_notice (moved s c)) (under_notice s) (newly s c) all (all_customers _ (λ n is. ap (λ b. cond b 1 0) (notice_moved s c n k.wide is) ∙ called_apart s c n)) in
    let going = counted_apart (under_notice (moved s c)) (freed (moved s c)) (under_notice (next s c)) all (all_customers _ (λ n is. and_apart (under_notice (moved s c) n) (at_initial (moved s c) n) ∙ ap (λ b. cond (freed (moved s c) n) 1 0 + cond b 1 0) (sym (notice_lifted (moved s c) n is)))) in
    omega (arith, coming, going, newly_counted s c)

-- over a run
record Holds (h : List Event) (s : State) (r : Run h s) : Type 0 where
  kept : Kept s
  law : Noticed h s r

calm : no_customer.notice ≡ false
unfolding no_customer
calm = refl

nobody_under : (s : State) → New s → still_under s ≡ 0
nobody_under s n =
    counted_none (under_notice s) (range_with_len 1 customers)
    (all_customers _ (λ k is. ap (λ cs. (get_or cs (k - 1) no_customer).notice) n.nobody ∙ ap (λ c. c.notice) (get_or-replicate customers (k - 1) no_customer no_customer (seat k is).1) ∙ calm))

holds : {h : List Event} {s : State} (r : Run h s) → Holds h s r
holds (new {s = s} n) = record { kept = kept_new s n; law = record { each = tt; adds_up = omega (arith, nobody_under s n) } }
holds (more {h = h} {s = s} {s' = s'} c (Ok a) r d) =
    let before = holds r in
    let here = counts s c before.kept in
    record {
      kept = subst Kept (sym d.2) (kept_next s c before.kept);
      law = record {
        each = (before.law.each, subst (Turns s c (Ok a)) (sym d.2) (accepted_turns s c a before.kept d.0));
        adds_up = omega (arith, before.law.adds_up, here, ap (λ x. newly_in c (Ok x)) d.1, ap (λ x. lifted_in (Ok x)) d.1, ap still_under d.2);
      };
    }
holds (more {h = h} {s = s} {s' = s'} c (Err f) r d) =
    let before = holds r in
    record {
      kept = subst Kept (sym d.1) before.kept;
      law = record {
        each = (before.law.each, subst (Turns s c (Err f)) (sym d.1) (refused_turns s c f));
        adds_up = omega (arith, before.law.adds_up, ap still_under d.1);
      };
    }

pub kept_along : {h : List Event} {s : State} → Run h s → Kept s
kept_along r = (holds r).kept

pub notice_law : NoticeLaw
notice_law h s r = (holds r).law
