-- Who is due to be called or lifted, and what becomes of it.
use Rattle.std.specs.Prelude.{ℕ, ◌-◌, Bool, true, false, cond, not, ◌&&◌, List, ℤ, slice_index_or}
use Rattle.margin.specs.Question.{Answers}
use Rattle.book.specs.Balances.{of_account}
use Rattle.steps.specs.State.{Customer, Series, no_customer, all_series}
use Rattle.steps.specs.Margins.{asks, reaches, lacks}
use Rattle.steps.specs.Steps.{noted}
use Rattle.notices.specs.declared.turn.Turn.{Turn}
use Rattle.notices.specs.declared.turn.Turn.TheVariants.{Call, Lift}

abbrev pub turns_to : Turn → Bool
turns_to Call = true
turns_to Lift = false

-- called: not under notice and below the minimum margin; lifted: under notice and at or above the initial margin
abbrev pub due : Answers → List Series → Turn → Customer → ℤ → Bool
due rule ss Call c b = not c.notice && lacks b (asks rule ss c.positions all_series).1
due rule ss Lift c b = c.notice && reaches b (asks rule ss c.positions all_series).0

-- account n, of these customers and balances
abbrev pub due_at : Answers → List Series → List ℤ → Turn → List Customer → ℕ → Bool
due_at rule ss bs t cs n = due rule ss t (slice_index_or cs (n - 1) no_customer) (of_account bs n)

abbrev pub turned_at : Answers → List Series → List ℤ → Turn → List Customer → ℕ → Customer
turned_at rule ss bs t cs n = cond (due_at rule ss bs t cs n) (noted (slice_index_or cs (n - 1) no_customer) (turns_to t)) (slice_index_or cs (n - 1) no_customer)
