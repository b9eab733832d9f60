-- What else is kept along a run: listed series, brokers, and that the room was opened.
use Rattle.std.proofs.Common.{◌≡◌, ℕ, zero, suc, ◌+◌, ◌-◌, ◌≤◌, Bool, true, leb, ◌⊎◌, List, [], ◌∷◌, ◌++◌, map, get_or, set, replicate, pos, None, sym, refl, ap, ◌∙◌, subst, inl, inr, arith}
use Rattle.std.specs.List.{range_with_len}
use Rattle.std.specs.Option.{option_to_list}
use Rattle.std.proofs.ByRecursion.{All-weaker, All-append}
use Rattle.std.proofs.lemmas.Bool.{not-false, and_parts, leb-true, le-leb}
use Rattle.terms.specs.declared.call.Call.{Call}
use Rattle.terms.specs.declared.call.Call.TheVariants as call
use Rattle.steps.specs.declared.Stage.{Stage}
use Rattle.steps.specs.declared.Stage.TheVariants.{Unlisted, Open, Ended}
use Rattle.steps.specs.Phases.{phase_number}
use Rattle.steps.specs.State.{State, Series, Customer, customers, no_customer, no_series, is_series, customer, series_at, ever_listed, is_open}
use Rattle.steps.specs.Deals.{Deal, with_positions, force_deal}
use Rattle.steps.specs.Refusals.{in_phase}
use Rattle.steps.specs.Steps.{under_broker, noted, moved, next, refusal, answer, settled_at, ended_at, customers_after}
use Rattle.runs.specs.Trading.{deal_by}
use Rattle.runs.proofs.Bought.{trade_fits, force_fits, force_series}
use Rattle.runs.proofs.Changes.{Dealt, Brokered}
use Rattle.runs.proofs.Flags.{set_either}
use Rattle.runs.proofs.Margins.{cleared_at}
use Rattle.runs.proofs.Positions.{passed}
use Rattle.runs.proofs.Refused.{not_refused}

-- a series that was listed stays so
listed_set : (xs : List Series) (k j : ℕ) (v d : Series) → (ever_listed (get_or xs k d).stage ≡ true → ever_listed v.stage ≡ true) → ever_listed (get_or xs j d).stage ≡ true → ever_listed (get_or (set xs k v) j d).stage ≡ true
listed_set xs k j v d keeps h =
    elim (set_either xs k j v d) [
      | inl e ↦ ap (λ x. ever_listed x.stage) e ∙ h
      | inr e ↦ ap (λ x. ever_listed x.stage) e.1 ∙ keeps (ap (λ l. ever_listed (get_or xs l d).stage) (sym e.0) ∙ h)
    ]

listed_moved : (s : State) (c : Call) (k : ℕ) → ever_listed (series_at s k).stage ≡ true → ever_listed (series_at (moved s c) k).stage ≡ true
listed_moved s call.Begin k h = h
listed_moved s (call.Enrol c b) k h = h
listed_moved s (call.List size limit i price fee) k h = listed_set s.series (i - 1) (k - 1) _ no_series (λ x. refl) h
listed_moved s (call.Deposit n a) k h = h
listed_moved s (call.Withdraw n a) k h = h
listed_moved s (call.Trade b o i n q) k h = h
listed_moved s call.Late k h = h
listed_moved s call.Shut k h = h
listed_moved s (call.Mark i q) k h = listed_set s.series (i - 1) (k - 1) (settled_at (series_at s i) q) no_series (λ x. x) h
listed_moved s (call.Final i q) k h = listed_set s.series (i - 1) (k - 1) (ended_at (series_at s i) q) no_series (λ x. refl) h
listed_moved s (call.Force c o i offer q) k h = h
listed_moved s (call.Cover c) k h = h
listed_moved s call.Notices k h = ap (λ x. ever_listed x.stage) (cleared_at s.series (k - 1)) ∙ h

open_listed : (x : Stage) → is_open x ≡ true → ever_listed x ≡ true
open_listed Unlisted h = h
open_listed Open h = refl
open_listed Ended h = refl

-- and so does the one of a new deal
new_dealt : (s : State) (c : Call) → refusal s c ≡ None → Dealt s (option_to_list (deal_by s c (answer s c)))
new_dealt s call.Begin fits = tt
new_dealt s (call.Enrol c b) fits = tt
new_dealt s (call.List size limit i price fee) fits = tt
new_dealt s (call.Deposit n a) fits = tt
new_dealt s (call.Withdraw n a) fits = tt
new_dealt s (call.Trade b o i n q) fits =
    (((trade_fits s b o i n q fits).series, open_listed (series_at s i).stage (not-false _ (not_refused _ _ (passed s (call.Trade b o i n q) fits).1.1.1.1.1.1.1.1.0))), tt)
new_dealt s call.Late fits = tt
new_dealt s call.Shut fits = tt
new_dealt s (call.Mark i q) fits = tt
new_dealt s (call.Final i q) fits = tt
new_dealt s (call.Force c o i offer q) fits =
    (((force_fits s c o i offer q fits).series, ap (λ k. ever_listed (series_at s k).stage) (force_series s c o i offer q) ∙ open_listed (series_at s i).stage (not-false _ (not_refused _ _ (passed s (call.Force c o i offer q) fits).1.1.1.1.1.1.1.1.0))), tt)
new_dealt s (call.Cover c) fits = tt
new_dealt s call.Notices fits = tt

pub dealt_next : (s : State) (c : Call) (ds : List Deal) → refusal s c ≡ None → Dealt s ds → Dealt (next s c) (option_to_list (deal_by s c (answer s c)) ++ ds)
dealt_next s c ds fits h =
    All-weaker _ (λ d. (is_series d.series ≡ true) × (ever_listed (series_at (next s c) d.series).stage ≡ true)) (λ d x. (x.0, listed_moved s c d.series x.1)) _ (All-append _ (option_to_list (deal_by s c (answer s c))) ds (new_dealt s c fits) h)

-- brokers
abbrev pub AllBrokered : List Customer → Type 0
AllBrokered cs = (k : ℕ) → Brokered (get_or cs k no_customer).broker

nobody_brokered : Brokered no_customer.broker
unfolding no_customer
nobody_brokered = tt

brokered_set : (cs : List Customer) → AllBrokered cs → (k : ℕ) (v : Customer) → Brokered v.broker → AllBrokered (set cs k v)
brokered_set cs all k v ok j =
    elim (set_either cs k j v no_customer) [
      | inl e ↦ subst (λ c. Brokered c.broker) (sym e) (all j)
      | inr e ↦ subst (λ c. Brokered c.broker) (sym e.1) ok
    ]

brokered_map : (f : Customer → Customer) → ((c : Customer) → (f c).broker ≡ c.broker) → (cs : List Customer) → AllBrokered cs → AllBrokered (map f cs)
brokered_map f keeps [] all k = all k
brokered_map f keeps (c ∷ cs) all zero = subst Brokered (sym (keeps c)) (all zero)
brokered_map f keeps (c ∷ cs) all (suc k) = brokered_map f keeps cs (λ j. all (suc j)) k

brokered_counted : (g : ℕ → Customer) → ((n : ℕ) → Brokered (g n).broker) → (a n : ℕ) → AllBrokered (map g (range_with_len a n))
brokered_counted g ok a zero k = nobody_brokered
brokered_counted g ok a (suc n) zero = ok a
brokered_counted g ok a (suc n) (suc k) = brokered_counted g ok (a + 1) n k

pub brokered_new : (m : ℕ) → AllBrokered (replicate m no_customer)
brokered_new zero k = nobody_brokered
brokered_new (suc m) zero = nobody_brokered
brokered_new (suc m) (suc k) = brokered_new m k

brokered_moved : (s : State) (c : Call) → refusal s c ≡ None → AllBrokered s.customers → AllBrokered (customers_after s c)
brokered_moved s call.Begin fits all = all
brokered_moved s (call.Enrol c b) fits all = brokered_set s.customers all (c - 1) (under_broker (customer s c) b) (not-false _ (not_refused _ _ (passed s (call.Enrol c b) fits).1.0))
brokered_moved s (call.List size limit i price fee) fits all = all
brokered_moved s (call.Deposit n a) fits all = all
brokered_moved s (call.Withdraw n a) fits all = all
brokered_moved s (call.Trade b o i n q) fits all = brokered_set _ (brokered_set s.customers all (b - 1) _ (all (b - 1))) (o - 1) _ (all (o - 1))
brokered_moved s call.Late fits all = all
brokered_moved s call.Shut fits all = all
brokered_moved s (call.Mark i q) fits all = all
brokered_moved s (call.Final i q) fits all = brokered_map (λ c. with_positions c (set c.positions (i - 1) (pos 0))) (λ c. refl) s.customers all
brokered_moved s (call.Force c o i offer q) fits all =
    let d = force_deal s c o i offer q in
    brokered_set _ (brokered_set s.customers all (d.buyer - 1) _ (all (d.buyer - 1))) (d.seller - 1) _ (all (d.seller - 1))
brokered_moved s (call.Cover c) fits all = all
brokered_moved s call.Notices fits all = brokered_counted (λ n. noted (customer s n) _) (λ n. all (n - 1)) 1 customers

pub brokered_next : (s : State) (c : Call) → refusal s c ≡ None → AllBrokered s.customers → AllBrokered (next s c).customers
brokered_next s c fits all = brokered_counted (λ n. noted (customer (moved s c) n) _) (λ n. brokered_moved s c fits all (n - 1)) 1 customers

-- the room was opened
abbrev pub began : State → Bool
began s = leb 1 (phase_number s.phase)

from_phase : (s : State) (first last : ℕ) → 1 ≤ first → in_phase s (first, last) ≡ true → began s ≡ true
from_phase s first last some h =
    le-leb 1 (phase_number s.phase) (omega (arith, leb-true first (phase_number s.phase) (and_parts (leb first (phase_number s.phase)) (leb (phase_number s.phase) last) h).0))

-- but for begin, only an open room takes calls
pub took : (s : State) (c : Call) → refusal s c ≡ None → (c ≡ call.Begin) ⊎ (began s ≡ true)
took s call.Begin fits = inl refl
took s (call.Enrol c b) fits = inr (from_phase s 1 3 (omega arith) (not-false _ (not_refused _ _ (passed s (call.Enrol c b) fits).1.1.0)))
took s (call.List size limit i price fee) fits = inr (from_phase s 1 2 (omega arith) (not-false _ (not_refused _ _ (passed s (call.List size limit i price fee) fits).1.1.0)))
took s (call.Deposit n a) fits = inr (from_phase s 1 3 (omega arith) (not-false _ (not_refused _ _ (passed s (call.Deposit n a) fits).1.1.0)))
took s (call.Withdraw n a) fits = inr (from_phase s 1 2 (omega arith) (not-false _ (not_refused _ _ (passed s (call.Withdraw n a) fits).1.1.0)))
took s (call.Trade b o i n q) fits = inr (from_phase s 1 2 (omega arith) (not-false _ (not_refused _ _ (passed s (call.Trade b o i n q) fits).1.1.1.1.1.0)))
took s call.Late fits = inr (from_phase s 1 1 (omega arith) (not-false _ (not_refused _ _ (passed s call.Late fits).0)))
took s call.Shut fits = inr (from_phase s 2 2 (omega arith) (not-false _ (not_refused _ _ (passed s call.Shut fits).0)))
took s (call.Mark i q) fits = inr (from_phase s 3 3 (omega arith) (not-false _ (not_refused _ _ (passed s (call.Mark i q) fits).1.1.0)))
took s (call.Final i q) fits = inr (from_phase s 3 3 (omega arith) (not-false _ (not_refused _ _ (passed s (call.Final i q) fits).1.1.0)))
took s (call.Force c o i offer q) fits = inr (from_phase s 2 3 (omega arith) (not-false _ (not_refused _ _ (passed s (call.Force c o i offer q) fits).1.1.1.1.1.0)))
took s (call.Cover c) fits = inr (from_phase s 3 3 (omega arith) (not-false _ (not_refused _ _ (passed s (call.Cover c) fits).1.0)))
took s call.Notices fits = inr (from_phase s 3 3 (omega arith) (not-false _ (not_refused _ _ (passed s call.Notices fits).0)))
