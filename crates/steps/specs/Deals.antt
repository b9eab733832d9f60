-- A deal between two customers: what it posts, how positions move, and the count that force takes.
use Rattle.std.specs.Prelude.{ℕ, zero, suc, ◌+◌, ◌-◌, ◌*◌, min, Bool, true, false, cond, List, ℤ, pos, negsuc, ◌+ℤ◌, ◌-ℤ◌, ◌*ℤ◌, neg_ℤ, ◌==◌, slice_set, unsigned_abs}
use Rattle.steps.specs.State.{State, Series, Customer, customer, series_at, position, balance}
use Rattle.steps.specs.Margins.{margins, reaches}

-- a buyer, a seller, a series, a number of contracts and a price
pub record Deal : Type 0 where
  pub buyer : ℕ
  pub seller : ℕ
  pub series : ℕ
  pub count : ℕ
  pub price : ℕ

-- what a buyer gains by the price that stands, and what each party pays
abbrev pub gain : Series → ℕ → ℕ → ℤ
gain s count price = (pos s.price -ℤ pos price) *ℤ pos s.size *ℤ pos count

abbrev pub fees : Series → ℕ → ℤ
fees s count = pos (s.fee * count)

abbrev pub bought : Series → ℕ → ℕ → ℤ
bought s count price = gain s count price -ℤ fees s count

abbrev pub sold : Series → ℕ → ℕ → ℤ
sold s count price = neg_ℤ (gain s count price) -ℤ fees s count

-- what a deal posts to account n; the house receives both fees
abbrev pub deal_post : State → Deal → ℕ → ℤ
deal_post s d n =
    let x = series_at s d.series in
    cond (n == d.buyer) (bought x d.count d.price)
    (cond (n == d.seller) (sold x d.count d.price)
    (cond (n == 64) (fees x d.count +ℤ fees x d.count) (pos 0)))

-- positions with one moved
abbrev pub shifted : State → ℕ → ℕ → ℤ → List ℤ
shifted s c i by = slice_set (customer s c).positions (i - 1) (position s c i +ℤ by)

abbrev pub with_positions : Customer → List ℤ → Customer
with_positions c ps = record { broker = c.broker; positions = ps; notice = c.notice }

abbrev pub deal_moves : State → Deal → List Customer
deal_moves s d =
    slice_set (slice_set s.customers (d.buyer - 1) (with_positions (customer s d.buyer) (shifted s d.buyer d.series (pos d.count))))
    (d.seller - 1) (with_positions (customer s d.seller) (shifted s d.seller d.series (neg_ℤ (pos d.count))))

-- a position that moves so closes: it goes towards nought and does not pass it
abbrev pub closes : ℤ → ℤ → Bool
closes held by = unsigned_abs (held +ℤ by) + unsigned_abs by == unsigned_abs held

-- force closes a long position by selling, a short one by buying
abbrev pub is_long : ℤ → Bool
is_long (pos n) = true
is_long (negsuc n) = false

abbrev pub closing : State → ℕ → ℕ → ℕ → ℕ → ℕ → Deal
closing s c other i count price =
    cond (is_long (position s c i))
    (record { buyer = other; seller = c; series = i; count = count; price = price })
    (record { buyer = c; seller = other; series = i; count = count; price = price })

-- what the closing customer is posted, and how its position moves
abbrev pub own_post : State → ℕ → ℕ → ℕ → ℕ → ℤ
own_post s c i count price = cond (is_long (position s c i)) (sold (series_at s i) count price) (bought (series_at s i) count price)

abbrev pub own_move : State → ℕ → ℕ → ℕ → ℤ
own_move s c i count = cond (is_long (position s c i)) (neg_ℤ (pos count)) (pos count)

-- closing so many contracts leaves the customer at or above its initial margin
unfoldable pub enough : State → ℕ → ℕ → ℕ → ℕ → Bool
enough s c i price count =
    reaches (balance s c +ℤ own_post s c i count price) (margins s (shifted s c i (own_move s c i count))).0

-- the first count from k on that passes, of so many more, else the last
abbrev pub first_from : (ℕ → Bool) → ℕ → ℕ → ℕ
first_from p k zero = k
first_from p k (suc more) = cond (p k) k (first_from p (k + 1) more)

abbrev pub least : (ℕ → Bool) → ℕ → ℕ
least p most = first_from p 1 (most - 1)

-- what force closes: at most the offer and the position
unfoldable pub forced : State → ℕ → ℕ → ℕ → ℕ → ℕ
forced s c i offer price = least (enough s c i price) (min offer (unsigned_abs (position s c i)))

abbrev pub force_deal : State → ℕ → ℕ → ℕ → ℕ → ℕ → Deal
force_deal s c other i offer price = closing s c other i (forced s c i offer price) price
