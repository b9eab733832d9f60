-- What one call does to what a customer's balance is made of.
use Rattle.std.proofs.Common.{◌≡◌, ℕ, ◌-◌, Bool, true, false, cond, eqb, leb, List, [], ◌∷◌, length, get_or, set, ℤ, pos, ◌+ℤ◌, ◌-ℤ◌, neg_ℤ, is_some, Some, None, Option, unwrap_or, sym, refl, ap, ◌∙◌, inl, inr, arith}
use lib.IntN.{+ℤ_idr}
use Rattle.std.specs.Option.{option_to_list}
use Rattle.std.specs.List.{AllByRecursion}
use Rattle.std.proofs.ByRecursion.{All-weaker}
use Rattle.std.proofs.lemmas.List.{get_or-set_other, get_or-set_same}
use Rattle.std.proofs.lemmas.Bool.{both_ways, eqb-true, eqb-false, ne_eqb, not-false, and_parts, leb-true}
use Rattle.terms.specs.declared.call.Answer.{Answer}
use Rattle.terms.specs.declared.call.Call.{Call}
use Rattle.terms.specs.declared.call.Call.TheVariants as call
use Rattle.book.proofs.Added.{linear}
use Rattle.steps.specs.State.{State, Series, all_series, no_customer, no_series, is_customer, is_broker, is_series, customer, series_at, position, ever_listed}
use Rattle.steps.specs.Deals.{Deal, deal_post, fees, gain, force_deal}
use Rattle.steps.specs.Steps.{post, alone, moved, refusal, trade_deal, answer, covered, settled_at, ended_at}
use Rattle.runs.specs.Money.{cash, deposited, withdrawn, received, over_deals, fee_of, gain_of}
use Rattle.runs.specs.Trading.{net, deal_by, ended}
use Rattle.runs.proofs.Bought.{Sound, Explained, trade_fits, force_fits, not_ended}
use Rattle.runs.proofs.Flags.{set_either}
use Rattle.runs.proofs.Margins.{cleared_at}
use Rattle.runs.proofs.Positions.{passed}
use Rattle.runs.proofs.Refused.{not_refused}
use Rattle.runs.proofs.Rows.{Fits, place}
use Rattle.runs.proofs.Values.{Repriced, shift, gains_repriced, fees_repriced, deals_same, fee_same, gain_same, Terms}

-- what an accepted call posts to a customer, told by cash, fees and gains
pub record Change (s t : State) (c : Call) (a : Answer) (n : ℕ) (nd ds : List Deal) : Type 0 where
  pub shift : ℤ
  pub fees : over_deals (fee_of t n) ds ≡ over_deals (fee_of s n) ds
  pub gains : over_deals (gain_of t n) ds ≡ over_deals (gain_of s n) ds +ℤ shift
  pub posts : post s c n ≡ deposited n (cash c a) -ℤ withdrawn n (cash c a) -ℤ over_deals (fee_of t n) nd +ℤ received n (cash c a) +ℤ over_deals (gain_of t n) nd +ℤ shift

-- every deal was made in a series of the room that was listed
abbrev pub Dealt : State → List Deal → Type 0
Dealt s ds = AllByRecursion (λ d. (is_series d.series ≡ true) × (ever_listed (series_at s d.series).stage ≡ true)) ds

-- every customer's broker is one
abbrev pub Brokered : Option ℕ → Type 0
Brokered None = Unit {0}
Brokered (Some b) = is_broker b ≡ true

-- a call that leaves prices and deals
plain : (s t : State) (c : Call) (a : Answer) (n : ℕ) (ds : List Deal) → over_deals (fee_of t n) ds ≡ over_deals (fee_of s n) ds → over_deals (gain_of t n) ds ≡ over_deals (gain_of s n) ds → post s c n ≡ deposited n (cash c a) -ℤ withdrawn n (cash c a) +ℤ received n (cash c a) → Change s t c a n [] ds
plain s t c a n ds same_fees same_gains posted =
    record { shift = pos 0; fees = same_fees; gains = same_gains ∙ sym (+ℤ_idr (over_deals (gain_of s n) ds)); posts = omega (arith, linear, posted) }

-- the three sides of a deal, told for a customer
deal_told : (b o h : Bool) (x f : ℤ) → (b ≡ true → o ≡ true → ⊥) → h ≡ false → cond b (x -ℤ f) (cond o (neg_ℤ x -ℤ f) (cond h (f +ℤ f) (pos 0))) ≡ (cond b x (pos 0) -ℤ cond o x (pos 0)) -ℤ (cond b f (pos 0) +ℤ cond o f (pos 0))
deal_told true true h x f apart none = absurd (apart refl refl)
deal_told true false h x f apart none = omega (arith, linear)
deal_told false true h x f apart none = omega (arith, linear)
deal_told false false true x f apart none = absurd (both_ways true none refl)
deal_told false false false x f apart none = refl

not_house : (n : ℕ) → is_customer n ≡ true → eqb n 64 ≡ false
not_house n is = ne_eqb n 64 (λ e. absurd (let high = leb-true n 56 (and_parts (leb 1 n) (leb n 56) is).1 in omega arith))

dealt : (s : State) (c : Call) (a : Answer) (d : Deal) (n : ℕ) (ds : List Deal) → Fits s d → is_customer n ≡ true → deposited n (cash c a) ≡ pos 0 → withdrawn n (cash c a) ≡ pos 0 → received n (cash c a) ≡ pos 0 → post s c n ≡ deal_post s d n → (t : State) → ((k : ℕ) → series_at t k ≡ series_at s k) → Change s t c a n (d ∷ []) ds
dealt s c a d n ds fits is no_in no_out no_cover posted t same =
    let told = deal_told (eqb n d.buyer) (eqb n d.seller) (eqb n 64) (gain (series_at s d.series) d.count d.price) (fees (series_at s d.series) d.count)
    (λ b o. fits.apart (sym (eqb-true n d.buyer b) ∙ eqb-true n d.seller o)) (not_house n is) in
    let fee : fee_of t n d ≡ fee_of s n d = fee_same s t n d (ap (λ x. x.fee) (same d.series)) in
    let gained : gain_of t n d ≡ gain_of s n d = gain_same s t n d (record { size = ap (λ x. x.size) (same d.series); fee = ap (λ x. x.fee) (same d.series); price = ap (λ x. x.price) (same d.series) }) in
    record {
      shift = pos 0;
      fees = deals_all (λ x. fee_same s t n x (ap (λ y. y.fee) (same x.series))) ds;
      gains = deals_all (λ x. gain_same s t n x (record { size = ap (λ y. y.size) (same x.series); fee = ap (λ y. y.fee) (same x.series); price = ap (λ y. y.price) (same x.series) })) ds ∙ sym (+ℤ_idr (over_deals (gain_of s n) ds));
      posts = omega (arith, linear, posted, told, fee, gained, no_in, no_out, no_cover);
    }
  where
    deals_all : {f g : Deal → ℤ} → ((x : Deal) → f x ≡ g x) → (ds : List Deal) → over_deals f ds ≡ over_deals g ds
    deals_all e [] = refl
    deals_all e (x ∷ xs) = λ i. e x i +ℤ deals_all e xs i

-- a series at a new price
repriced : (s t : State) (i q : ℕ) (v : Series) → t.series ≡ set s.series (i - 1) v → v.size ≡ (series_at s i).size → v.fee ≡ (series_at s i).fee → v.price ≡ q → length s.series ≡ all_series → is_series i ≡ true → (k : ℕ) → is_series k ≡ true → Repriced s t i q k
repriced s t i q v is size fee price all series k other =
    let row : series_at t k ≡ get_or (set s.series (i - 1) v) (k - 1) no_series = ap (λ ss. get_or ss (k - 1) no_series) is in
    record {
      size =
          elim (set_either s.series (i - 1) (k - 1) v no_series) [
            | inl e ↦ ap (λ x. x.size) (row ∙ e)
            | inr e ↦ ap (λ x. x.size) (row ∙ e.1) ∙ size ∙ ap (λ l. (get_or s.series l no_series).size) (sym e.0)
          ];
      fee =
          elim (set_either s.series (i - 1) (k - 1) v no_series) [
            | inl e ↦ ap (λ x. x.fee) (row ∙ e)
            | inr e ↦ ap (λ x. x.fee) (row ∙ e.1) ∙ fee ∙ ap (λ l. (get_or s.series l no_series).fee) (sym e.0)
          ];
      here = λ h.
          ap (λ x. x.price) (row ∙ ap (λ l. get_or (set s.series (i - 1) v) (l - 1) no_series) (sym (eqb-true i k h)) ∙ get_or-set_same s.series (i - 1) v no_series (omega (arith, all, place i series))) ∙ price;
      there = λ h.
          let apart : k - 1 ≡ i - 1 → ⊥ = λ e. eqb-false i k h (omega (arith, place i series, place k other)) in
          ap (λ x. x.price) (row ∙ get_or-set_other s.series (i - 1) (k - 1) v no_series apart);
    }

-- a mark, whether or not the series ends with it
marked : (s : State) (c : Call) (a : Answer) (i q n : ℕ) (v : Series) (ds : List Deal) → v.size ≡ (series_at s i).size → v.fee ≡ (series_at s i).fee → v.price ≡ q → (t : State) → t.series ≡ set s.series (i - 1) v → Sound s → Explained s ds → Dealt s ds → is_series i ≡ true → ended (series_at s i).stage ≡ false → is_customer n ≡ true → post s c n ≡ cond (is_customer n) (shift s s n i q (position s n i)) (pos 0) → deposited n (cash c a) ≡ pos 0 → withdrawn n (cash c a) ≡ pos 0 → received n (cash c a) ≡ pos 0 → Change s t c a n [] ds
marked s c a i q n v ds size fee price t is_set sound said listed series on is posted no_in no_out no_cover =
    let rows = All-weaker (λ d. (is_series d.series ≡ true) × (ever_listed (series_at s d.series).stage ≡ true)) (λ d. Repriced s t i q d.series) (λ d h. repriced s t i q v is_set size fee price sound.all series d.series h.0) ds listed in
    let held : position s n i ≡ net n i ds = said n i is series ∙ ap (λ b. cond b (pos 0) (net n i ds)) on in
    let whole : post s c n ≡ shift s t n i q (net n i ds) = posted ∙ ap (λ b. cond b (shift s s n i q (position s n i)) (pos 0)) is ∙ ap (shift s s n i q) held in
    record {
      shift = shift s t n i q (net n i ds);
      fees = fees_repriced s t n i q ds rows;
      gains = gains_repriced s t n i q ds rows;
      posts = whole ∙ last (shift s t n i q (net n i ds));
    }
  where
    last : (z : ℤ) → z ≡ deposited n (cash c a) -ℤ withdrawn n (cash c a) -ℤ pos 0 +ℤ received n (cash c a) +ℤ pos 0 +ℤ z
    last z = omega (arith, linear, no_in, no_out, no_cover)

neg_if : (b : Bool) (x : ℤ) → cond b (neg_ℤ x) (pos 0) ≡ pos 0 -ℤ cond b x (pos 0) +ℤ pos 0
neg_if true x = omega (arith, linear)
neg_if false x = refl

-- the broker of an enrolled customer is no customer
broker_apart : (o : Option ℕ) → is_some o ≡ true → Brokered o → (n : ℕ) → is_customer n ≡ true → eqb n (unwrap_or o 0) ≡ false
broker_apart None some ok n is = absurd (both_ways false refl some)
broker_apart (Some b) some ok n is =
    ne_eqb n b (λ e. absurd (let low = leb-true 57 b (and_parts (leb 57 b) (leb b 63) ok).0 in let high = leb-true n 56 (and_parts (leb 1 n) (leb n 56) is).1 in omega arith))

module _ (s : State) (sound : Sound s) (ds : List Deal) (said : Explained s ds) (listed : Dealt s ds) (brokers : (k : ℕ) → Brokered (get_or s.customers k no_customer).broker) (n : ℕ) (is : is_customer n ≡ true) where
  -- terms that stay for every series that was dealt in
  kept_terms : (c : Call) → ((d : Deal) → is_series d.series ≡ true → ever_listed (series_at s d.series).stage ≡ true → Terms (series_at (moved s c) d.series) (series_at s d.series)) → post s c n ≡ deposited n (cash c (answer s c)) -ℤ withdrawn n (cash c (answer s c)) +ℤ received n (cash c (answer s c)) → Change s (moved s c) c (answer s c) n [] ds
  kept_terms c same posted =
      plain s (moved s c) c (answer s c) n ds
      (deals_same (fee_of (moved s c) n) (fee_of s n) ds (All-weaker _ (λ d. fee_of (moved s c) n d ≡ fee_of s n d) (λ d h. fee_same s (moved s c) n d (same d h.0 h.1).fee) ds listed))
      (deals_same (gain_of (moved s c) n) (gain_of s n) ds (All-weaker _ (λ d. gain_of (moved s c) n d ≡ gain_of s n d) (λ d h. gain_same s (moved s c) n d (same d h.0 h.1)) ds listed))
      posted

  unchanged : (d : Deal) → is_series d.series ≡ true → ever_listed (series_at s d.series).stage ≡ true → Terms (series_at s d.series) (series_at s d.series)
  unchanged d series ever = record { size = refl; fee = refl; price = refl }

  pub change : (c : Call) → refusal s c ≡ None → Change s (moved s c) c (answer s c) n (option_to_list (deal_by s c (answer s c))) ds
  change call.Begin fits = kept_terms call.Begin unchanged refl
  change (call.Enrol c b) fits = kept_terms (call.Enrol c b) unchanged refl
  change (call.List size limit i price fee) fits =
      let entries = passed s (call.List size limit i price fee) fits in
      let unlisted = not_refused (ever_listed (series_at s i).stage) _ entries.1.1.1.0 in
      let series = not-false _ (not_refused _ _ entries.0) in
      kept_terms (call.List size limit i price fee)
      (λ d other ever.
      let apart : d.series - 1 ≡ i - 1 → ⊥ = λ e. both_ways (ever_listed (series_at s d.series).stage) (ap (λ l. ever_listed (get_or s.series l no_series).stage) e ∙ unlisted) ever in
      let same = get_or-set_other s.series (i - 1) (d.series - 1) _ no_series apart in
      record { size = ap (λ x. x.size) same; fee = ap (λ x. x.fee) same; price = ap (λ x. x.price) same })
      refl
  change (call.Deposit k x) fits = kept_terms (call.Deposit k x) unchanged (omega (arith, linear))
  change (call.Withdraw k x) fits = kept_terms (call.Withdraw k x) unchanged (neg_if (eqb n k) (pos x))
  change (call.Trade b o i m q) fits =
      dealt s (call.Trade b o i m q) (answer s (call.Trade b o i m q)) (trade_deal b o i m q) n ds (trade_fits s b o i m q fits) is refl refl refl refl (moved s (call.Trade b o i m q)) (λ k. refl)
  change call.Late fits = kept_terms call.Late unchanged refl
  change call.Shut fits = kept_terms call.Shut unchanged refl
  change (call.Mark i q) fits =
      let entries = passed s (call.Mark i q) fits in
      marked s (call.Mark i q) (answer s (call.Mark i q)) i q n (settled_at (series_at s i) q) ds refl refl refl (moved s (call.Mark i q)) refl sound said listed
      (not-false _ (not_refused _ _ entries.0)) (not_ended (series_at s i).stage (not-false _ (not_refused _ _ entries.1.1.1.0))) is refl refl refl refl
  change (call.Final i q) fits =
      let entries = passed s (call.Final i q) fits in
      marked s (call.Final i q) (answer s (call.Final i q)) i q n (ended_at (series_at s i) q) ds refl refl refl (moved s (call.Final i q)) refl sound said listed
      (not-false _ (not_refused _ _ entries.0)) (not_ended (series_at s i).stage (not-false _ (not_refused _ _ entries.1.1.1.0))) is refl refl refl refl
  change (call.Force c o i offer q) fits =
      dealt s (call.Force c o i offer q) (answer s (call.Force c o i offer q)) (force_deal s c o i offer q) n ds (force_fits s c o i offer q fits) is refl refl refl refl (moved s (call.Force c o i offer q)) (λ k. refl)
  change (call.Cover c) fits =
      let entries = passed s (call.Cover c) fits in
      let there = not-false _ (not_refused _ _ entries.1.1.0) in
      let apart = broker_apart (customer s c).broker there (brokers (c - 1)) n is in
      kept_terms (call.Cover c) unchanged
      (ap (λ b. alone c (pos (covered s c)) n -ℤ cond b (pos (covered s c)) (pos 0)) apart ∙ whole (alone c (pos (covered s c)) n))
    where
      whole : (z : ℤ) → z -ℤ pos 0 ≡ pos 0 -ℤ pos 0 +ℤ z
      whole z = omega (arith, linear)
  change call.Notices fits =
      kept_terms call.Notices
      (λ d series ever.
      let same = cleared_at s.series (d.series - 1) in
      record { size = ap (λ x. x.size) same; fee = ap (λ x. x.fee) same; price = ap (λ x. x.price) same })
      refl
