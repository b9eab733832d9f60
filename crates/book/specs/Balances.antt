-- The balances of accounts 1 to 64, as a list.
use Rattle.std.specs.Prelude.{ℕ, ◌-◌, Bool, cond, ◌&&◌, List, [], ◌∷◌, ℤ, pos, ◌+ℤ◌, Some, None, Option, nat_le, nat_lt, slice_index_or, unsigned_abs}

-- from −10^18 to 10^18
abbrev pub in_bounds : ℤ → Bool
in_bounds z = nat_le (unsigned_abs z) 1000000000000000000

-- what an amount makes of a balance, if that is within bounds
abbrev pub new_balance : ℤ → ℤ → Option ℤ
new_balance b a = cond (in_bounds (b +ℤ a)) (Some (b +ℤ a)) None

abbrev pub is_account : ℕ → Bool
is_account n = nat_lt 0 n && nat_le n 64

-- what a list has for account n, and 0 for a number that is no account
abbrev pub of_account : List ℤ → ℕ → ℤ
of_account xs n = cond (is_account n) (slice_index_or xs (n - 1) (pos 0)) (pos 0)

abbrev pub total : List ℤ → ℤ
total [] = pos 0
total (x ∷ xs) = x +ℤ total xs
