-- What holds of every book.
use Rattle.std.specs.Prelude.{◌≡◌, ℕ, ◌≤◌, true, List, length, ℤ, pos, slice_index_or}
use Rattle.book.specs.Balances.{in_bounds}

pub record BookLaws {S : Type 0} (balances : S → List ℤ) (lines_each : ℕ) (kept : S → S → Type 0) : Type 0 where
  -- a balance for each of the 64 accounts
  pub accounts : (s : S) → length (balances s) ≡ 64
  -- each within its bounds
  pub bounded : (s : S) (k : ℕ) → in_bounds (slice_index_or (balances s) k (pos 0)) ≡ true
  -- a posting takes no line or one
  pub cost : lines_each ≤ 1
  -- a book holds the memory that it was lent, and over many steps as over one
  pub stays : (s : S) → kept s s
  pub joins : (s t u : S) → kept s t → kept t u → kept s u
