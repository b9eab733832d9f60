-- One turn of the pass over the trades.
use Rattle.std.proofs.Common.{◌≡◌, ℕ, ◌+◌, ◌-◌, ◌*◌, ◌<◌, ◌≤◌, Bool, true, false, cond, leb, List, [], ◌∷◌, length, get_or, take, drop, Some, sum_by, filter, sym, refl, ap, ◌∙◌, arith}
use Rattle.std.proofs.lemmas.List.{at_drop_more}
use Rattle.std.proofs.lemmas.List.Elements.{filter_more}
use Rattle.std.proofs.lemmas.List.Sums.{sum_by-append, sum_by_more}
use Rattle.price.specs.declared.day.Trade.{Trade}
use Rattle.price.specs.declared.sums.Sum.{Sum}
use Rattle.price.specs.declared.sums.Deal.{Deal}
use Rattle.price.specs.declared.sums.Sums.{Sums}
use Rattle.price.specs.Prices.{is_recent, recent, trade_fits, first_unfit}
use Rattle.price.specs.Tally.{SumOf, SumsOf, Wider, Grown}

-- what stands past the end of a list of trades
abbrev pub no_trade : Trade
no_trade = record { second = 0; price = 0; count = 0 }

-- what a filter keeps of one element
sum_by_one : {X : Type 0} (f : X → ℕ) (x : X) (b : Bool) → sum_by f (cond b (x ∷ []) []) ≡ cond b (f x) 0
sum_by_one f x true = omega arith
sum_by_one f x false = refl

kept_turn : {X : Type 0} (f : X → ℕ) (p : X → Bool) (xs : List X) (i : ℕ) (d : X) → i < length xs → sum_by f (filter p (take (i + 1) xs)) ≡ sum_by f (filter p (take i xs)) + cond (p (get_or xs i d)) (f (get_or xs i d)) 0
kept_turn f p xs i d within =
    let x = get_or xs i d in
    ap (sum_by f) (filter_more p xs i d within)
    ∙ sum_by-append f (filter p (take i xs)) (cond (p x) (x ∷ []) [])
    ∙ ap (λ n. sum_by f (filter p (take i xs)) + n) (sum_by_one f x (p x))

-- no window holds more contracts than its trades can have
pub record Few (i : ℕ) (s : Sums) : Type 0 where
  pub half : s.half.volume ≤ 1000 * i
  pub hour : s.hour.volume ≤ 1000 * i
  pub day : s.day.volume ≤ 1000 * i

-- the deal of a trade in a session
pub record DealOf (last : ℕ) (t : Trade) (d : Deal) : Type 0 where
  pub ago : d.ago ≡ last - t.second
  pub price : d.price.value ≡ t.price
  pub count : d.count.value ≡ t.count

module _ (last : ℕ) (ts : List Trade) (i : ℕ) (within : i < length ts) where
  pub unfit_here : trade_fits last (get_or ts i no_trade) ≡ false → first_unfit last (i + 1) (drop i ts) ≡ Some (i + 1)
  unfit_here e =
      let t = get_or ts i no_trade in
      at_drop_more (first_unfit last (i + 1)) ts i no_trade within ∙ ap (λ b. cond b (first_unfit last (i + 1 + 1) (drop (i + 1) ts)) (Some (i + 1))) e

  pub unfit_later : trade_fits last (get_or ts i no_trade) ≡ true → first_unfit last (i + 1) (drop i ts) ≡ first_unfit last (i + 1 + 1) (drop (i + 1) ts)
  unfit_later e =
      at_drop_more (first_unfit last (i + 1)) ts i no_trade within ∙ ap (λ b. cond b (first_unfit last (i + 1 + 1) (drop (i + 1) ts)) (Some (i + 1))) e

  module _ (d : Deal) (of : DealOf last (get_or ts i no_trade) d) where
    wider : (window : ℕ) (s r : Sum) → SumOf (recent last window (take i ts)) s → Wider window s d r → SumOf (recent last window (take (i + 1) ts)) r
    wider window s r sum grown =
        let p = is_recent last window in (
          grown.0 ∙ (λ j. sum.0 j + cond (leb (of.ago j) window) (of.count j) 0) ∙ sym (kept_turn (λ t. t.count) p ts i no_trade within),
          grown.1 ∙ (λ j. sum.1 j + cond (leb (of.ago j) window) (of.price j * of.count j) 0) ∙ sym (kept_turn (λ t. t.price * t.count) p ts i no_trade within),
        )

    pub sums_more : (s r : Sums) → SumsOf last (take i ts) s → Grown s d r → SumsOf last (take (i + 1) ts) r
    sums_more s r sums grown = (
      wider 1800 s.half r.half sums.0 grown.0,
      wider 3600 s.hour r.hour sums.1 grown.1,
      (
        grown.2.0 ∙ (λ j. sums.2.0 j + of.count j) ∙ sym (sum_by_more (λ t. t.count) ts i no_trade within),
        grown.2.1 ∙ (λ j. sums.2.1 j + of.price j * of.count j) ∙ sym (sum_by_more (λ t. t.price * t.count) ts i no_trade within),
      ),
    )

cond_le : (b : Bool) (n k : ℕ) → n ≤ k → cond b n 0 ≤ k
cond_le true n k h = h
cond_le false n k h = omega arith

pub few_more : (i : ℕ) (d : Deal) (s r : Sums) → Few i s → Grown s d r → Few (i + 1) r
few_more i d s r few grown =
    let n = d.count.value in
    record {
      half = omega (arith, few.half, grown.0.0, cond_le (leb d.ago 1800) n 1000 d.count.high);
      hour = omega (arith, few.hour, grown.1.0, cond_le (leb d.ago 3600) n 1000 d.count.high);
      day = omega (arith, few.day, grown.2.0, d.count.high);
    }
