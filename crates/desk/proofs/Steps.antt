-- From the tests and the book's answer to what a call does.
use Rattle.std.proofs.Common.{◌≡◌, ℕ, ◌-◌, ◌*◌, List, [], ◌∷◌, ◌++◌, ℤ, IsErrAnd, Some, None, Ok, Err, Option, Result, sym, refl, ap, ◌∙◌, subst}
use Rattle.std.proofs.lemmas.Result.{err_from_is_err_and}
use Rattle.terms.specs.declared.call.Call.{Call}
use Rattle.terms.specs.declared.fault.Fault.{Fault}
use Rattle.book.specs.Postings.{added, postings, all_answer}
use Rattle.steps.specs.State.{State, Customer, Series}
use Rattle.steps.specs.Refusals.{first, room_refusals, book_refuses, of_book}
use Rattle.desk.specs.declared.desk.Desk.{Desk}
use Rattle.desk.specs.Moves.{Moves}
use Rattle.steps.specs.Steps.{refusal, figure, posts, moved, phase_after, customers_after, series_after}

pub first_none : (xs ys : List (Option Fault)) → first xs ≡ None → first (xs ++ ys) ≡ first ys
first_none [] ys e = refl
first_none (None ∷ xs) ys e = first_none xs ys e
first_none (Some f ∷ xs) ys e = e ∙ sym e ∙ absurd_some e
  where
    absurd_some : {o : Option Fault} → Some f ≡ None → Some f ≡ o
    absurd_some p = cc

pub first_some : (xs ys : List (Option Fault)) (f : Fault) → first xs ≡ Some f → first (xs ++ ys) ≡ Some f
first_some [] ys f e = cc
first_some (None ∷ xs) ys f e = first_some xs ys f e
first_some (Some g ∷ xs) ys f e = e

-- what `?` hands on
pub given : {T : Type 0} (P : Result T Fault → Type 0) (f : Fault) (r : Result T Fault) → IsErrAnd r (λ x. x ≡ f) → P (Err f) → P r
given P f r b h =
    let e = err_from_is_err_and r b in
    subst P (sym (e.1 ∙ ap Err e.2)) h

pub handed : (s s' : State) (c : Call) (f : Fault) (r : Result ℕ Fault) → IsErrAnd r (λ x. x ≡ f) → refusal s c ≡ Some f → s' ≡ s → Moves s c r s'
handed s s' c f r b e h = given (λ x. Moves s c x s') f r b (e, h)

-- a desk whose book is as it was
pub same_desk : {B R : Type 0} (d : Desk B R) (b : B) → b ≡ d.book.now → record { phase = d.phase; customers = d.customers; series = d.series; book = record { ref_ptr = d.book.ref_ptr; ghost_name = d.book.ghost_name; now = b }; rule = d.rule } ≡ d
same_desk d b e = λ i. record { phase = d.phase; customers = d.customers; series = d.series; book = record { ref_ptr = d.book.ref_ptr; ghost_name = d.book.ghost_name; now = e i }; rule = d.rule }

module _ (s : State) (c : Call) where
  -- a test of the room refuses
  pub refused : (f : Fault) (r : Result ℕ Fault) → IsErrAnd r (λ x. x ≡ f) → first (room_refusals s c) ≡ Some f → Moves s c r s
  refused f r b e = handed s s c f r b (first_some (room_refusals s c) _ f e) refl

  module _ (e : first (room_refusals s c) ≡ None) (ms : List ℤ) (p : ms ≡ posts s c) where
    pub asks_book : refusal s c ≡ first (book_refuses s ms ∷ [])
    asks_book = first_none (room_refusals s c) _ e ∙ ap (λ x. first (book_refuses s x ∷ [])) (sym p)

    -- the book refuses
    pub declined : (s' : State) (f : Fault) (r : Result ℕ Fault) → IsErrAnd r (λ x. x ≡ f) → Err f ≡ all_answer s.balances s.lines s.cost ms → s' ≡ s → Moves s c r s'
    declined s' f r b d h = handed s s' c f r b (asks_book ∙ ap (λ r. first (of_book r ∷ [])) (sym d)) h

    -- all is posted, and the tables changed
    pub done : (cs : List Customer) (ss : List Series) (bs : List ℤ) (ls : ℕ) → Ok tt ≡ all_answer s.balances s.lines s.cost ms → cs ≡ customers_after s c → ss ≡ series_after s c → bs ≡ added s.balances ms → ls ≡ s.lines - s.cost * postings ms → Moves s c (Ok (figure s c)) (record { phase = phase_after s c; customers = cs; series = ss; balances = bs; lines = ls; cost = s.cost; rule = s.rule })
    done cs ss bs ls d x y b l =
        (asks_book ∙ ap (λ r. first (of_book r ∷ [])) (sym d), refl, moved_on)
      where
        moved_on : record { phase = phase_after s c; customers = cs; series = ss; balances = bs; lines = ls; cost = s.cost; rule = s.rule } ≡ moved s c
        moved_on =
            λ i. record {
              phase = phase_after s c;
              customers = x i;
              series = y i;
              balances = (b ∙ ap (added s.balances) p) i;
              lines = (l ∙ ap (λ m. s.lines - s.cost * postings m) p) i;
              cost = s.cost;
              rule = s.rule;
            }
