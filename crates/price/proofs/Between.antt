-- A price lies between the lowest and the highest price that it is made of.
use Rattle.std.proofs.Common.{◌≡◌, ℕ, ◌+◌, ◌*◌, ◌≤◌, List, [], ◌∷◌, sym, ap, subst, mul-le-mul_right, mul-zero, mul-add, arith}
use Rattle.std.specs.List.{AllByRecursion}
use Rattle.std.proofs.lemmas.List.Sums.{sum_by-cons}
use Rattle.price.specs.declared.day.Trade.{Trade}
use Rattle.price.specs.declared.day.Session.{Session}
use Rattle.price.specs.declared.day.Rule.{Rule}
use Rattle.price.specs.declared.day.Rule.TheVariants.{LastHalfHour, LastHour, WholeDay, Quotations, Committee}
use Rattle.price.specs.Means.{Nearest}
use Rattle.price.specs.Prices.{volume, value, recent}
use Rattle.price.specs.Rules.{MeanOf, Gives, Between, prices, both, listed, made_of}
use Rattle.price.proofs.Means.{mean_low, mean_high, nearest_only}

-- the money of trades whose prices have a bound
pub value_low : (k : ℕ) (ts : List Trade) → AllByRecursion (λ q. k ≤ q) (prices ts) → k * volume ts ≤ value ts
value_low k [] a = omega (arith, mul-zero k)
value_low k (t ∷ ts) a =
    let here = mul-le-mul_right t.count a.0 in
    omega (arith, value_low k ts a.1, sum_by-cons (λ t. t.count) t ts, sum_by-cons (λ t. t.price * t.count) t ts, ap (λ n. k * n) (sum_by-cons (λ t. t.count) t ts), mul-add k t.count (volume ts))

pub value_high : (k : ℕ) (ts : List Trade) → AllByRecursion (λ q. q ≤ k) (prices ts) → value ts ≤ k * volume ts
value_high k [] a = omega (arith, mul-zero k)
value_high k (t ∷ ts) a =
    let here = mul-le-mul_right t.count a.0 in
    omega (arith, value_high k ts a.1, sum_by-cons (λ t. t.count) t ts, sum_by-cons (λ t. t.price * t.count) t ts, ap (λ n. k * n) (sum_by-cons (λ t. t.count) t ts), mul-add k t.count (volume ts))

module _ (sum weight p : ℕ) (n : Nearest sum weight p) where
  nearest_low : (k : ℕ) → k * weight ≤ sum → k ≤ p
  nearest_low k h = subst (λ q. k ≤ q) (nearest_only sum weight p n) (mean_low sum weight n.traded k h)

  nearest_high : (k : ℕ) → sum ≤ k * weight → p ≤ k
  nearest_high k h = subst (λ q. q ≤ k) (nearest_only sum weight p n) (mean_high sum weight n.traded k h)

of_trades : (ts : List Trade) (p : ℕ) → MeanOf ts p → Between (prices ts) p
of_trades ts p n =
    record {
      low = λ k a. nearest_low (value ts) (volume ts) p n k (value_low k ts a);
      high = λ k a. nearest_high (value ts) (volume ts) p n k (value_high k ts a);
    }

of_two : (bid ask p : ℕ) → Nearest (bid + ask) 2 p → Between (bid ∷ ask ∷ []) p
of_two bid ask p n =
    record {
      low = λ k a. nearest_low (bid + ask) 2 p n k (omega (arith, a.0, a.1.0));
      high = λ k a. nearest_high (bid + ask) 2 p n k (omega (arith, a.0, a.1.0));
    }

pub between : (s : Session) (ts : List Trade) (r : Rule) (p : ℕ) → Gives s ts r p → Between (made_of s ts r) p
between s ts LastHalfHour p g = of_trades (recent s.last 1800 ts) p g.1
between s ts LastHour p g = of_trades (recent s.last 3600 ts) p g.1
between s ts WholeDay p g = of_trades ts p g
between s ts Quotations p g =
    let q = g.1 in
    let quotations : both s.bid s.ask ≡ q.bid ∷ q.ask ∷ [] = λ i. both (q.bid_is i) (q.ask_is i) in
    subst (λ ps. Between ps p) (sym quotations) (of_two q.bid q.ask p q.between)
between s ts Committee p g =
    subst (λ o. Between (listed o) p) (sym g) (record { low = λ k a. a.0; high = λ k a. a.0 })
