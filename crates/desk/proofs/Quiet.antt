-- Calls that post nothing.
use Rattle.std.proofs.Common.{◌≡◌, ℕ, zero, suc, ◌+◌, ◌-◌, ◌*◌, List, [], ◌∷◌, map, replicate, ℤ, pos, ◌+ℤ◌, None, Ok, sym, refl, ap, ◌∙◌, zero-le, mul-zero, arith}
use lib.IntN.{+ℤ_idr}
use Rattle.std.proofs.lemmas.Bool.{cond-true, cond-false, le-ltb}
use Rattle.std.specs.List.{range_with_len}
use Rattle.terms.specs.declared.call.Call.{Call}
use Rattle.book.specs.Balances.{in_bounds}
use Rattle.book.specs.Postings.{added, postings, lowest_out, answer_by, all_answer}
use Rattle.book.proofs.Bounds.{Bounded}
use Rattle.steps.specs.State.{State, Customer, Series, house}
use Rattle.steps.specs.Refusals.{first, room_refusals}
use Rattle.steps.specs.Steps.{post, figure, phase_after, customers_after, series_after}
use Rattle.desk.specs.Moves.{Moves}
use Rattle.desk.proofs.Posts.{zeros, zeros_are, posts_are}
use Rattle.desk.proofs.Steps.{done}

added_nothing : (bs : List ℤ) (m : ℕ) → added bs (replicate m (pos 0)) ≡ bs
added_nothing [] m = refl
added_nothing (b ∷ bs) zero = refl
added_nothing (b ∷ bs) (suc m) = λ i. +ℤ_idr b i ∷ added_nothing bs m i

no_postings : (m : ℕ) → postings (replicate m (pos 0)) ≡ 0
no_postings zero = refl
no_postings (suc m) = no_postings m

none_out : (n : ℕ) (bs : List ℤ) (m : ℕ) → Bounded bs → lowest_out n bs (replicate m (pos 0)) ≡ None
none_out n [] m h = refl
none_out n (b ∷ bs) zero h = refl
none_out n (b ∷ bs) (suc m) h =
    cond-true (in_bounds (b +ℤ pos 0)) _ _ (ap in_bounds (+ℤ_idr b) ∙ h 0)
    ∙ none_out (n + 1) bs m (λ k. h (suc k))

no_lines : (cost : ℕ) → cost * postings zeros ≡ 0
no_lines cost = ap (λ k. cost * k) (no_postings 64) ∙ mul-zero cost

module _ (s : State) (c : Call) (inside : Bounded s.balances) where
  -- the book refuses nothing
  taken : all_answer s.balances s.lines s.cost zeros ≡ Ok tt
  taken =
      (λ i. answer_by (none_out 1 s.balances 64 inside i) s.lines (no_lines s.cost i))
      ∙ cond-false _ _ _ (le-ltb s.lines 0 zero-le)

  -- a call that posts nothing to any account, and changes the tables
  pub quiet : first (room_refusals s c) ≡ None → map (post s c) (range_with_len 1 house) ≡ map (λ _. pos 0) (range_with_len 1 house) → (cs : List Customer) (ss : List Series) → cs ≡ customers_after s c → ss ≡ series_after s c → Moves s c (Ok (figure s c)) (record { phase = phase_after s c; customers = cs; series = ss; balances = s.balances; lines = s.lines; cost = s.cost; rule = s.rule })
  quiet e p cs ss x y =
      let none = zeros_are ∙ sym p ∙ sym (posts_are s c) in
      let left : s.lines ≡ s.lines - s.cost * postings zeros = omega (arith, no_lines s.cost) in
      done s c e zeros none cs ss s.balances s.lines (sym taken) x y (sym (added_nothing s.balances 64)) left
