-- Why postings are made or refused, told of accounts.
use Rattle.std.specs.Prelude.{◌≡◌, ℕ, ◌*◌, ◌<◌, ◌≤◌, true, false, List, ℤ, pos, ◌+ℤ◌, Ok, Err, Result}
use Rattle.terms.specs.declared.fault.Fault.{Fault}
use Rattle.terms.specs.declared.fault.Fault.TheVariants.{OutOfBounds, NoLines}
use Rattle.book.specs.Balances.{in_bounds, is_account, of_account}
use Rattle.book.specs.Postings.{postings}

-- every balance stays within bounds
abbrev pub Inside : List ℤ → List ℤ → Type 0
Inside bs ms = (n : ℕ) → in_bounds (of_account bs n +ℤ of_account ms n) ≡ true

-- a posting is due to account n that would take it out of bounds, and none to an account below it
pub record Lowest (bs ms : List ℤ) (n : ℕ) : Type 0 where
  pub account : is_account n ≡ true
  pub due : of_account ms n ≡ pos 0 → ⊥
  pub out : in_bounds (of_account bs n +ℤ of_account ms n) ≡ false
  pub below : (k : ℕ) → k < n → in_bounds (of_account bs k +ℤ of_account ms k) ≡ true

-- the three answers to postings, each with its reason
pub data Reason (bs : List ℤ) (left cost : ℕ) (ms : List ℤ) : Result (Unit {0}) Fault → Type 0 where
  made : Inside bs ms → cost * postings ms ≤ left → Reason bs left cost ms (Ok tt)
  out_of_bounds : (n : ℕ) → Lowest bs ms n → Reason bs left cost ms (Err (OutOfBounds n))
  no_lines : Inside bs ms → left < cost * postings ms → Reason bs left cost ms (Err NoLines)
