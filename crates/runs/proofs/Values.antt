-- Fees and gains of deals, as prices move.
use Rattle.std.proofs.Common.{◌≡◌, ℕ, ◌*◌, Bool, true, false, cond, eqb, List, [], ◌∷◌, ◌++◌, ℤ, pos, ◌+ℤ◌, ◌-ℤ◌, ◌*ℤ◌, neg_ℤ, sym, refl, ap, ◌∙◌, inl, inr, arith}
use lib.IntN.{zero-*ℤ, +ℤ_idr}
use Rattle.std.specs.List.{AllByRecursion}
use Rattle.std.proofs.lemmas.Bool.{eqb-true, cases_Bool}
use Rattle.book.proofs.Added.{linear}
use Rattle.steps.specs.State.{State, Series, series_at}
use Rattle.steps.specs.Deals.{Deal}
use Rattle.runs.specs.Money.{over_deals, fee_of, gain_of}
use Rattle.runs.specs.Trading.{mine, side, net}
use Rattle.runs.proofs.Ring.{+ℤ-*ℤ, neg-*ℤ, gain_moved}

pub deals_append : (f : Deal → ℤ) (xs ys : List Deal) → over_deals f (xs ++ ys) ≡ over_deals f xs +ℤ over_deals f ys
deals_append f [] ys = omega (arith, linear)
deals_append f (x ∷ xs) ys = omega (arith, linear, deals_append f xs ys)

pub deals_same : (f g : Deal → ℤ) (ds : List Deal) → AllByRecursion (λ d. f d ≡ g d) ds → over_deals f ds ≡ over_deals g ds
deals_same f g [] a = refl
deals_same f g (d ∷ ds) a = λ i. a.0 i +ℤ deals_same f g ds a.1 i

-- series on the same terms
pub record Terms (x y : Series) : Type 0 where
  pub size : x.size ≡ y.size
  pub fee : x.fee ≡ y.fee
  pub price : x.price ≡ y.price

pub fee_same : (s t : State) (n : ℕ) (d : Deal) → (series_at t d.series).fee ≡ (series_at s d.series).fee → fee_of t n d ≡ fee_of s n d
fee_same s t n d e = λ i. mine n d.buyer (pos (e i * d.count)) +ℤ mine n d.seller (pos (e i * d.count))

pub gain_same : (s t : State) (n : ℕ) (d : Deal) → Terms (series_at t d.series) (series_at s d.series) → gain_of t n d ≡ gain_of s n d
gain_same s t n d e =
    λ i. mine n d.buyer ((pos (e.price i) -ℤ pos d.price) *ℤ pos (e.size i) *ℤ pos d.count) -ℤ mine n d.seller ((pos (e.price i) -ℤ pos d.price) *ℤ pos (e.size i) *ℤ pos d.count)

-- what of a sum is mine, and what of a product
mine_plus : (b : Bool) (x y : ℤ) → cond b (x +ℤ y) (pos 0) ≡ cond b x (pos 0) +ℤ cond b y (pos 0)
mine_plus true x y = refl
mine_plus false x y = refl

mine_times : (b : Bool) (x k : ℤ) → cond b (x *ℤ k) (pos 0) ≡ cond b x (pos 0) *ℤ k
mine_times true x k = refl
mine_times false x k = sym (zero-*ℤ k)

minus_times : (x y k : ℤ) → x *ℤ k -ℤ y *ℤ k ≡ (x -ℤ y) *ℤ k
minus_times x y k = ap (λ z. x *ℤ k +ℤ z) (sym (neg-*ℤ y k)) ∙ sym (+ℤ-*ℤ x (neg_ℤ y) k)

-- a deal in the series whose price moves from p to q
deal_shift : (n : ℕ) (d : Deal) (size p q : ℤ) → mine n d.buyer ((q -ℤ pos d.price) *ℤ size *ℤ pos d.count) -ℤ mine n d.seller ((q -ℤ pos d.price) *ℤ size *ℤ pos d.count) ≡ (mine n d.buyer ((p -ℤ pos d.price) *ℤ size *ℤ pos d.count) -ℤ mine n d.seller ((p -ℤ pos d.price) *ℤ size *ℤ pos d.count)) +ℤ side n d *ℤ size *ℤ (q -ℤ p)
deal_shift n d size p q =
    let c = pos d.count in
    let old = (p -ℤ pos d.price) *ℤ size *ℤ c in
    let step = c *ℤ size *ℤ (q -ℤ p) in
    let moved = gain_moved q p (pos d.price) size c in
    let b = eqb n d.buyer in
    let o = eqb n d.seller in
    let buyer : cond b ((q -ℤ pos d.price) *ℤ size *ℤ c) (pos 0) ≡ cond b old (pos 0) +ℤ cond b c (pos 0) *ℤ size *ℤ (q -ℤ p) =
    ap (λ z. cond b z (pos 0)) moved ∙ mine_plus b old step ∙ ap (λ z. cond b old (pos 0) +ℤ z) (mine_times b (c *ℤ size) (q -ℤ p) ∙ ap (λ z. z *ℤ (q -ℤ p)) (mine_times b c size)) in
    let seller : cond o ((q -ℤ pos d.price) *ℤ size *ℤ c) (pos 0) ≡ cond o old (pos 0) +ℤ cond o c (pos 0) *ℤ size *ℤ (q -ℤ p) =
    ap (λ z. cond o z (pos 0)) moved ∙ mine_plus o old step ∙ ap (λ z. cond o old (pos 0) +ℤ z) (mine_times o (c *ℤ size) (q -ℤ p) ∙ ap (λ z. z *ℤ (q -ℤ p)) (mine_times o c size)) in
    let both : cond b c (pos 0) *ℤ size *ℤ (q -ℤ p) -ℤ cond o c (pos 0) *ℤ size *ℤ (q -ℤ p) ≡ side n d *ℤ size *ℤ (q -ℤ p) =
    minus_times (cond b c (pos 0) *ℤ size) (cond o c (pos 0) *ℤ size) (q -ℤ p) ∙ ap (λ z. z *ℤ (q -ℤ p)) (minus_times (cond b c (pos 0)) (cond o c (pos 0)) size) in
    omega (arith, linear, buyer, seller, both)

-- a series at a new price: itself on the same terms but for that, the others as they were
pub record Repriced (s t : State) (i q : ℕ) (k : ℕ) : Type 0 where
  pub size : (series_at t k).size ≡ (series_at s k).size
  pub fee : (series_at t k).fee ≡ (series_at s k).fee
  pub here : eqb i k ≡ true → (series_at t k).price ≡ q
  pub there : eqb i k ≡ false → (series_at t k).price ≡ (series_at s k).price

module _ (s t : State) (n i q : ℕ) where
  -- what a position of z gains by the new price
  abbrev pub shift : ℤ → ℤ
  shift z = z *ℤ pos (series_at s i).size *ℤ (pos q -ℤ pos (series_at s i).price)

  nought : shift (pos 0) ≡ pos 0
  nought = ap (λ z. z *ℤ (pos q -ℤ pos (series_at s i).price)) (zero-*ℤ (pos (series_at s i).size)) ∙ zero-*ℤ (pos q -ℤ pos (series_at s i).price)

  gain_repriced : (d : Deal) → Repriced s t i q d.series → gain_of t n d ≡ gain_of s n d +ℤ shift (cond (eqb i d.series) (side n d) (pos 0))
  gain_repriced d row =
      elim (cases_Bool (eqb i d.series)) [
        | inl here ↦
            let k = eqb-true i d.series here in
            (λ j. mine n d.buyer ((pos (row.here here j) -ℤ pos d.price) *ℤ pos (row.size j) *ℤ pos d.count) -ℤ mine n d.seller ((pos (row.here here j) -ℤ pos d.price) *ℤ pos (row.size j) *ℤ pos d.count))
            ∙ deal_shift n d (pos (series_at s d.series).size) (pos (series_at s d.series).price) (pos q)
            ∙ (λ j. gain_of s n d +ℤ side n d *ℤ pos (series_at s (sym k j)).size *ℤ (pos q -ℤ pos (series_at s (sym k j)).price))
            ∙ ap (λ b. gain_of s n d +ℤ shift (cond b (side n d) (pos 0))) (sym here)
        | inr other ↦
            gain_same s t n d (record { size = row.size; fee = row.fee; price = row.there other })
            ∙ sym (+ℤ_idr (gain_of s n d)) ∙ ap (λ z. gain_of s n d +ℤ z) (sym nought)
            ∙ ap (λ b. gain_of s n d +ℤ shift (cond b (side n d) (pos 0))) (sym other)
      ]

  shift_plus : (x y : ℤ) → shift (x +ℤ y) ≡ shift x +ℤ shift y
  shift_plus x y =
      let size = pos (series_at s i).size in
      let step = pos q -ℤ pos (series_at s i).price in
      ap (λ z. z *ℤ step) (+ℤ-*ℤ x y size) ∙ +ℤ-*ℤ (x *ℤ size) (y *ℤ size) step

  pub gains_repriced : (ds : List Deal) → AllByRecursion (λ d. Repriced s t i q d.series) ds → over_deals (gain_of t n) ds ≡ over_deals (gain_of s n) ds +ℤ shift (net n i ds)
  gains_repriced [] rows = ap (λ z. pos 0 +ℤ z) (sym nought)
  gains_repriced (d ∷ ds) rows =
      omega (arith, linear, gain_repriced d rows.0, gains_repriced ds rows.1, shift_plus (cond (eqb i d.series) (side n d) (pos 0)) (net n i ds))

  pub fees_repriced : (ds : List Deal) → AllByRecursion (λ d. Repriced s t i q d.series) ds → over_deals (fee_of t n) ds ≡ over_deals (fee_of s n) ds
  fees_repriced [] rows = refl
  fees_repriced (d ∷ ds) rows = λ j. fee_same s t n d rows.0.fee j +ℤ fees_repriced ds rows.1 j
