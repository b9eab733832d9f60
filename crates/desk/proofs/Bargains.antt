-- A bargain: what it posts, the positions that it leaves, and the call that it came from.
use Rattle.std.proofs.Common.{◌≡◌, ℕ, ◌-◌, cond, eqb, ◌≢◌, List, map, get_or, set, ℤ, pos, ◌+ℤ◌, IsErrAnd, Some, Ok, Err, Option, Result, sym, ap, ◌∙◌, arith}
use Rattle.std.specs.List.{range_with_len}
use Rattle.std.proofs.lemmas.List.{get_or-set_other}
use Rattle.terms.specs.declared.fault.Fault.{Fault}
use Rattle.steps.specs.State.{State, Customer, Series, house, no_customer, customer, series_at, position}
use Rattle.steps.specs.Deals.{Deal, bought, sold, fees, deal_moves, with_positions}
use Rattle.steps.specs.Refusals.{first, book_refuses}
use Rattle.exposure.specs.declared.deal.Shares.{Shares}
use Rattle.desk.specs.declared.bargain.Bargain.{Bargain}
use Rattle.desk.specs.Bargains.{Agreed, Fair, Strikes, deal_of, deal_posts}
use Rattle.desk.proofs.Steps.{given}

-- a refusal that `?` hands on
pub withheld : (s : State) (d : Deal) (xs : List (Option Fault)) (f : Fault) (r : Result Bargain Fault) → IsErrAnd r (λ x. x ≡ f) → first xs ≡ Some f → Agreed s d xs r
withheld s d xs f r b e = given (Agreed s d xs) f r b e

pub unposted : (s s' : State) (d : Deal) (f : Fault) (r : Result (Unit {0}) Fault) → IsErrAnd r (λ x. x ≡ f) → book_refuses s (deal_posts s d) ≡ Some f → s' ≡ s → Strikes s d r s'
unposted s s' d f r b e h = given (λ x. Strikes s d x s') f r b (e, h)

-- the same deal, agreed under a longer list
pub agreed : (s : State) {d d' : Deal} (xs ys : List (Option Fault)) (r : Result Bargain Fault) → d ≡ d' → first xs ≡ first ys → Agreed s d xs r → Agreed s d' ys r
agreed s xs ys (Ok x) p e h = (sym e ∙ h.0, (h.1.0 ∙ p, h.1.1))
agreed s xs ys (Err f) p e h = sym e ∙ h

-- the shares of a deal are what it posts
pub shared : (s : State) (d : Deal) {x : Series} (m : Shares) {ms : List ℤ} → ms ≡ map (λ n. cond (eqb n d.buyer) m.buyer (cond (eqb n d.seller) m.seller (cond (eqb n 64) m.house (pos 0)))) (range_with_len 1 house) → m.buyer ≡ bought x d.count d.price → m.seller ≡ sold x d.count d.price → m.house ≡ fees x d.count +ℤ fees x d.count → x ≡ series_at s d.series → ms ≡ deal_posts s d
shared s d m e p q r at =
    e
    ∙ (λ i. map (λ n. cond (eqb n d.buyer) (p i) (cond (eqb n d.seller) (q i) (cond (eqb n 64) (r i) (pos 0)))) (range_with_len 1 house))
    ∙ (λ i. map (λ n. cond (eqb n d.buyer) (bought (at i) d.count d.price) (cond (eqb n d.seller) (sold (at i) d.count d.price) (cond (eqb n 64) (fees (at i) d.count +ℤ fees (at i) d.count) (pos 0)))) (range_with_len 1 house))

-- a row that holds so many contracts of a series
abbrev holding : Customer → ℕ → ℤ → Customer
holding c i z = with_positions c (set c.positions (i - 1) z)

-- both rows are written, and the second is as it was before the first
pub both_held : (s : State) (x : Bargain) → Fair s x → (cs ds : List Customer) → cs ≡ set s.customers (x.buyer.value - 1) (holding (customer s x.buyer.value) x.lot.series.value x.buyer_after.contracts) → ds ≡ set cs (x.seller.value - 1) (holding (get_or cs (x.seller.value - 1) no_customer) x.lot.series.value x.seller_after.contracts) → ds ≡ deal_moves s (deal_of x)
both_held s x fair cs ds p q =
    q ∙ (λ j. set (first_row j) (x.seller.value - 1) (holding (other_row j) x.lot.series.value (fair.sells j)))
  where
    other : x.seller.value - 1 ≢ x.buyer.value - 1
    other e = fair.apart (omega (arith, x.buyer.low, x.seller.low))

    other_row : get_or cs (x.seller.value - 1) no_customer ≡ customer s x.seller.value
    other_row = ap (λ l. get_or l (x.seller.value - 1) no_customer) p ∙ get_or-set_other s.customers (x.buyer.value - 1) (x.seller.value - 1) _ no_customer other

    first_row : cs ≡ set s.customers (x.buyer.value - 1) (holding (customer s x.buyer.value) x.lot.series.value (position s x.buyer.value x.lot.series.value +ℤ pos x.lot.count.value))
    first_row = p ∙ (λ j. set s.customers (x.buyer.value - 1) (holding (customer s x.buyer.value) x.lot.series.value (fair.buys j)))
