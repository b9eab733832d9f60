-- A position is contracts bought less sold.
use Rattle.std.proofs.Common.{◌≡◌, ℕ, zero, suc, ◌-◌, Bool, true, false, cond, ◌||◌, eqb, List, [], ◌∷◌, ◌++◌, map, length, get_or, set, ℤ, pos, ◌+ℤ◌, None, sym, refl, ap, ◌∙◌, inl, inr, arith, length-set}
use lib.IntN.{+ℤ_comm}
use lib.ListN.{length-map}
use Rattle.std.specs.Option.{option_to_list}
use Rattle.std.proofs.lemmas.List.FromFn.{get_or-map-range_with_len}
use Rattle.std.proofs.lemmas.List.{get_or-map}
use Rattle.std.proofs.lemmas.Bool.{both_ways, eqb-true, eqb-false, not-false, cases_Bool, cond_both}
use Rattle.terms.specs.declared.call.Call.{Call}
use Rattle.terms.specs.declared.call.Call.TheVariants as call
use Rattle.steps.specs.declared.Stage.{Stage}
use Rattle.steps.specs.declared.Stage.TheVariants.{Unlisted, Open, Ended}
use Rattle.steps.specs.State.{State, Series, customers, all_series, no_customer, no_series, is_customer, is_series, customer, position, series_at, is_open, ever_listed, under_notice}
use Rattle.steps.specs.Deals.{Deal, deal_moves, with_positions, force_deal, forced, is_long}
use Rattle.steps.specs.Steps.{under_broker, noted, newly_called, moved, refusal, trade_deal, answer, settled_at, ended_at, cleared, series_after}
use Rattle.runs.specs.Trading.{side, net, ended, deal_by}
use Rattle.runs.proofs.Flags.{seat, set_either}
use Rattle.runs.proofs.Positions.{passed}
use Rattle.runs.proofs.Refused.{not_refused}
use Rattle.runs.proofs.Rows.{Full, Fits, place, same_place, set_at, deal_position}

-- the deal that an accepted call makes fits
module _ (s : State) (b o i : ℕ) where
  fits_of : (n q : ℕ) → is_customer b ≡ true → is_customer o ≡ true → eqb b o ≡ false → is_series i ≡ true → Fits s (record { buyer = b; seller = o; series = i; count = n; price = q })
  fits_of n q buyer seller apart series = record { buyer = buyer; seller = seller; apart = eqb-false b o apart; series = series }

pub trade_fits : (s : State) (b o i n q : ℕ) → refusal s (call.Trade b o i n q) ≡ None → Fits s (trade_deal b o i n q)
trade_fits s b o i n q accepted =
    let e = passed s (call.Trade b o i n q) accepted in
    fits_of s b o i n q (not-false _ (not_refused _ _ e.0)) (not-false _ (not_refused _ _ e.1.0)) (not_refused _ _ e.1.1.1.1.0) (not-false _ (not_refused _ _ e.1.1.0))

eqb_turned : (a b : ℕ) → eqb a b ≡ false → eqb b a ≡ false
eqb_turned a b h = elim (cases_Bool (eqb b a)) [ inl e ↦ absurd (eqb-false a b h (sym (eqb-true b a e))) | inr e ↦ e ]

pub force_fits : (s : State) (c o i offer q : ℕ) → refusal s (call.Force c o i offer q) ≡ None → Fits s (force_deal s c o i offer q)
force_fits s c o i offer q accepted =
    let e = passed s (call.Force c o i offer q) accepted in
    let first = not-false _ (not_refused _ _ e.0) in
    let second = not-false _ (not_refused _ _ e.1.0) in
    let series = not-false _ (not_refused _ _ e.1.1.0) in
    let apart = not_refused (eqb c o) _ e.1.1.1.1.0 in
    cond_both (is_long (position s c i)) _ _ (Fits s)
    (λ t. fits_of s o c i (forced s c i offer q) q second first (eqb_turned c o apart) series)
    (λ t. fits_of s c o i (forced s c i offer q) q first second apart series)

pub force_series : (s : State) (c o i offer q : ℕ) → (force_deal s c o i offer q).series ≡ i
force_series s c o i offer q = cond_both {A = Deal} (is_long (position s c i)) _ _ (λ d. d.series ≡ i) (λ t. refl) (λ t. refl)

-- an open series has not ended
pub not_ended : (x : Stage) → is_open x ≡ true → ended x ≡ false
not_ended Unlisted h = refl
not_ended Open h = refl
not_ended Ended h = absurd (both_ways false refl h)

new_not_ended : (x : Stage) → ever_listed x ≡ false → ended x ≡ false
new_not_ended Unlisted h = refl
new_not_ended Open h = refl
new_not_ended Ended h = absurd (both_ways true h refl)

-- a series set anew, whose end is as it was
ended_set : (xs : List Series) (k j : ℕ) (v d : Series) → ended v.stage ≡ ended (get_or xs k d).stage → ended (get_or (set xs k v) j d).stage ≡ ended (get_or xs j d).stage
ended_set xs k j v d same =
    elim (set_either xs k j v d) [
      | inl e ↦ ap (λ x. ended x.stage) e
      | inr e ↦ ap (λ x. ended x.stage) e.1 ∙ same ∙ ap (λ l. ended (get_or xs l d).stage) (sym e.0)
    ]

ended_cleared : (xs : List Series) (j : ℕ) → ended (get_or (map cleared xs) j no_series).stage ≡ ended (get_or xs j no_series).stage
ended_cleared [] j = refl
ended_cleared (x ∷ xs) zero = refl
ended_cleared (x ∷ xs) (suc j) = ended_cleared xs j

-- what is said of positions
abbrev pub Explained : State → List Deal → Type 0
Explained s ds = (n j : ℕ) → is_customer n ≡ true → is_series j ≡ true → position s n j ≡ cond (ended (series_at s j).stage) (pos 0) (net n j ds)

-- positions that stay, in series that go on
same_said : (s t : State) (ds : List Deal) → Explained s ds → ((n j : ℕ) → is_customer n ≡ true → position t n j ≡ position s n j) → ((j : ℕ) → ended (series_at t j).stage ≡ ended (series_at s j).stage) → Explained t ds
same_said s t ds said held stays n j is series =
    held n j is ∙ said n j is series ∙ ap (λ b. cond b (pos 0) (net n j ds)) (sym (stays j))

-- a deal in an open series
dealt_said : (s : State) (d : Deal) (ds : List Deal) → Fits s d → length s.customers ≡ customers → Full s.customers → ended (series_at s d.series).stage ≡ false → Explained s ds → (n j : ℕ) → is_customer n ≡ true → is_series j ≡ true → get_or (get_or (deal_moves s d) (n - 1) no_customer).positions (j - 1) (pos 0) ≡ cond (ended (series_at s j).stage) (pos 0) (net n j (d ∷ ds))
dealt_said s d ds fits wide full on said n j is series =
    deal_position s d fits wide full n j is series ∙ ap (λ z. z +ℤ cond (eqb j d.series) (side n d) (pos 0)) (said n j is series)
    ∙ by (ended (series_at s j).stage) (eqb j d.series) (λ ends here. both_ways (ended (series_at s j).stage) (ap (λ k. ended (series_at s k).stage) (eqb-true j d.series here) ∙ on) ends)
  where
    by : (over here : Bool) → (over ≡ true → here ≡ true → ⊥) → cond over (pos 0) (net n j ds) +ℤ cond here (side n d) (pos 0) ≡ cond over (pos 0) (cond here (side n d) (pos 0) +ℤ net n j ds)
    by true true never = absurd (never refl refl)
    by true false never = refl
    by false here never = +ℤ_comm (net n j ds) (cond here (side n d) (pos 0))

-- a series that ends: its positions are nought, the others stay
final_held : (s : State) (i : ℕ) → is_series i ≡ true → length s.customers ≡ customers → Full s.customers → (n j : ℕ) → is_customer n ≡ true → is_series j ≡ true → get_or (get_or (map (λ c. with_positions c (set c.positions (i - 1) (pos 0))) s.customers) (n - 1) no_customer).positions (j - 1) (pos 0) ≡ cond (eqb j i) (pos 0) (position s n j)
final_held s i series wide full n j is other =
    ap (λ c. get_or c.positions (j - 1) (pos 0)) (get_or-map (λ c. with_positions c (set c.positions (i - 1) (pos 0))) s.customers (n - 1) no_customer no_customer (omega (arith, seat n is, wide)))
    ∙ set_at (customer s n).positions (i - 1) (j - 1) (pos 0) (pos 0) (omega (arith, full (n - 1), place i series))
    ∙ ap (λ t. cond t (pos 0) (position s n j)) (same_place j i (place j other).0 (place i series).0)

final_stage : (s : State) (i q : ℕ) → length s.series ≡ all_series → is_series i ≡ true → (j : ℕ) → is_series j ≡ true → ended (get_or (set s.series (i - 1) (ended_at (series_at s i) q)) (j - 1) no_series).stage ≡ cond (eqb j i) true (ended (series_at s j).stage)
final_stage s i q wide series j other =
    ap (λ x. ended x.stage) (set_at s.series (i - 1) (j - 1) (ended_at (series_at s i) q) no_series (omega (arith, wide, place i series)))
    ∙ ap (λ t. ended (cond t (ended_at (series_at s i) q) (series_at s j)).stage) (same_place j i (place j other).0 (place i series).0)
    ∙ by (eqb j i)
  where
    by : (t : Bool) → ended (cond t (ended_at (series_at s i) q) (series_at s j)).stage ≡ cond t true (ended (series_at s j).stage)
    by true = refl
    by false = refl

-- what every state of a run keeps of its tables
pub record Sound (s : State) : Type 0 where
  pub wide : length s.customers ≡ customers
  pub full : Full s.customers
  pub all : length s.series ≡ all_series

module _ (s : State) (sound : Sound s) (ds : List Deal) (said : Explained s ds) where
  stay : (n j : ℕ) → is_customer n ≡ true → position s n j ≡ position s n j
  stay n j is = refl

  pub explained_moved : (c : Call) → refusal s c ≡ None → Explained (moved s c) (option_to_list (deal_by s c (answer s c)) ++ ds)
  explained_moved call.Begin fits = said
  explained_moved (call.Enrol c b) fits =
      same_said s (moved s (call.Enrol c b)) ds said
      (λ n j is.
      elim (set_either s.customers (c - 1) (n - 1) (under_broker (customer s c) b) no_customer) [
        | inl e ↦ ap (λ x. get_or x.positions (j - 1) (pos 0)) e
        | inr e ↦ ap (λ x. get_or x.positions (j - 1) (pos 0)) e.1 ∙ ap (λ k. get_or (get_or s.customers k no_customer).positions (j - 1) (pos 0)) (sym e.0)
      ])
      (λ j. refl)
  explained_moved (call.List size limit i price fee) fits =
      let entries = passed s (call.List size limit i price fee) fits in
      same_said s (moved s (call.List size limit i price fee)) ds said stay
      (λ j. ended_set s.series (i - 1) (j - 1) _ no_series (sym (new_not_ended (series_at s i).stage (not_refused _ _ entries.1.1.1.0))))
  explained_moved (call.Deposit n a) fits = said
  explained_moved (call.Withdraw n a) fits = said
  explained_moved (call.Trade b o i n q) fits =
      let entries = passed s (call.Trade b o i n q) fits in
      dealt_said s (trade_deal b o i n q) ds (trade_fits s b o i n q fits) sound.wide sound.full (not_ended (series_at s i).stage (not-false _ (not_refused _ _ entries.1.1.1.1.1.1.1.1.0))) said
  explained_moved call.Late fits = said
  explained_moved call.Shut fits = said
  explained_moved (call.Mark i q) fits =
      same_said s (moved s (call.Mark i q)) ds said stay (λ j. ended_set s.series (i - 1) (j - 1) (settled_at (series_at s i) q) no_series refl)
  explained_moved (call.Final i q) fits =
      λ n j is other.
      let series = not-false _ (not_refused _ _ (passed s (call.Final i q) fits).0) in
      final_held s i series sound.wide sound.full n j is other
      ∙ by (eqb j i) (ended (series_at s j).stage) (position s n j) (net n j ds) (said n j is other)
      ∙ ap (λ b. cond b (pos 0) (net n j ds)) (sym (final_stage s i q sound.all series j other))
    where
      by : (here over : Bool) (held bought : ℤ) → held ≡ cond over (pos 0) bought → cond here (pos 0) held ≡ cond (cond here true over) (pos 0) bought
      by true over held bought e = refl
      by false over held bought e = e
  explained_moved (call.Force c o i offer q) fits =
      let entries = passed s (call.Force c o i offer q) fits in
      dealt_said s (force_deal s c o i offer q) ds (force_fits s c o i offer q fits) sound.wide sound.full
      (ap (λ k. ended (series_at s k).stage) (force_series s c o i offer q) ∙ not_ended (series_at s i).stage (not-false _ (not_refused _ _ entries.1.1.1.1.1.1.1.1.0))) said
  explained_moved (call.Cover c) fits = said
  explained_moved call.Notices fits =
      same_said s (moved s call.Notices) ds said
      (λ n j is. ap (λ x. get_or x.positions (j - 1) (pos 0)) (get_or-map-range_with_len (λ n. noted (customer s n) (under_notice s n || newly_called s call.Notices n)) 1 customers (n - 1) n no_customer (seat n is).1 (omega (arith, seat n is))))
      (λ j. ended_cleared s.series (j - 1))

  -- the series are always as many
  pub all_moved : (c : Call) → length (series_after s c) ≡ all_series
  all_moved call.Begin = sound.all
  all_moved (call.Enrol c b) = sound.all
  all_moved (call.List size limit i price fee) = length-set s.series (i - 1) _ ∙ sound.all
  all_moved (call.Deposit n a) = sound.all
  all_moved (call.Withdraw n a) = sound.all
  all_moved (call.Trade b o i n q) = sound.all
  all_moved call.Late = sound.all
  all_moved call.Shut = sound.all
  all_moved (call.Mark i q) = length-set s.series (i - 1) _ ∙ sound.all
  all_moved (call.Final i q) = length-set s.series (i - 1) _ ∙ sound.all
  all_moved (call.Force c o i offer q) = sound.all
  all_moved (call.Cover c) = sound.all
  all_moved call.Notices = length-map s.series cleared ∙ sound.all
