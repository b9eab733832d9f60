-- One posting, and many of which all are made or none.
use Rattle.std.specs.Prelude.{ℕ, ◌+◌, ◌-◌, ◌*◌, cond, ◌&&◌, List, [], ◌∷◌, ℤ, pos, ◌+ℤ◌, Some, None, Ok, Err, Option, Result, ◌==◌, not, count_by, nat_lt, slice_index_or, slice_set, unsigned_abs}
use Rattle.terms.specs.declared.fault.Fault.{Fault}
use Rattle.terms.specs.declared.fault.Fault.TheVariants.{OutOfBounds, NoLines}
use Rattle.book.specs.Balances.{in_bounds, is_account, of_account}

-- what a posting to account n answers
abbrev pub post_answer : List ℤ → ℕ → ℕ → ℕ → ℤ → Result (Unit {0}) Fault
post_answer bs left cost n a = cond (is_account n && in_bounds (of_account bs n +ℤ a)) (cond (nat_lt left cost) (Err NoLines) (Ok tt)) (Err (OutOfBounds n))

-- the balances after a posting that was made
abbrev pub posted_to : List ℤ → ℕ → ℤ → List ℤ
posted_to bs n a = slice_set bs (n - 1) (slice_index_or bs (n - 1) (pos 0) +ℤ a)

-- balances and amounts added, account by account
abbrev pub added : List ℤ → List ℤ → List ℤ
added [] ms = []
added (b ∷ bs) [] = b ∷ bs
added (b ∷ bs) (a ∷ ms) = (b +ℤ a) ∷ added bs ms

-- how many amounts are not 0
abbrev pub postings : List ℤ → ℕ
postings ms = count_by (λ a. not (unsigned_abs a == 0)) ms

-- the lowest account, counted from n, whose balance would leave its bounds
abbrev pub lowest_out : ℕ → List ℤ → List ℤ → Option ℕ
lowest_out n [] ms = None
lowest_out n (b ∷ bs) [] = None
lowest_out n (b ∷ bs) (a ∷ ms) = cond (in_bounds (b +ℤ a)) (lowest_out (n + 1) bs ms) (Some n)

-- first the bounds, then the lines
abbrev pub answer_by : Option ℕ → ℕ → ℕ → Result (Unit {0}) Fault
answer_by (Some n) left needed = Err (OutOfBounds n)
answer_by None left needed = cond (nat_lt left needed) (Err NoLines) (Ok tt)

-- what the postings of a list of amounts answer
abbrev pub all_answer : List ℤ → ℕ → ℕ → List ℤ → Result (Unit {0}) Fault
all_answer bs left cost ms = answer_by (lowest_out 1 bs ms) left (cost * postings ms)
