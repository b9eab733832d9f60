-- Accounts 1 to 64 and their places in a list.
use Rattle.std.proofs.Common.{◌≡◌, ℕ, zero, suc, ◌+◌, ◌-◌, ◌<◌, true, false, List, get_or, ℤ, pos, refl, ap, ◌∙◌, subst, inl, inr, add-one, arith}
use Rattle.std.proofs.lemmas.Bool.{cases_Bool, cond-true, cond-false, leb-true, and_parts}
use Rattle.std.proofs.lemmas.Bool.Decides.{nat_tests}
use Rattle.book.specs.Balances.{is_account, of_account}

pub account_at : (i : ℕ) → i < 64 → is_account (i + 1) ≡ true
account_at i h = grind (arith, nat_tests)

pub of_account_at : (xs : List ℤ) (i : ℕ) → i < 64 → of_account xs (i + 1) ≡ get_or xs i (pos 0)
of_account_at xs i h =
    let back : i + 1 - 1 ≡ i = omega arith in
    cond-true (is_account (i + 1)) _ _ (account_at i h) ∙ ap (λ k. get_or xs k (pos 0)) back

pub of_no_account : (xs : List ℤ) (n : ℕ) → is_account n ≡ false → of_account xs n ≡ pos 0
of_no_account xs n h = cond-false (is_account n) _ _ h

-- what holds at each place of the list, and of no account, holds of every number
pub by_account : (P : ℕ → Type 0) → ((i : ℕ) → i < 64 → P (i + 1)) → ((n : ℕ) → is_account n ≡ false → P n) → (n : ℕ) → P n
by_account P here none zero = none zero refl
by_account P here none (suc i) =
    elim (cases_Bool (is_account (suc i))) [
      | inl h ↦ let l : i < 64 = omega (arith, leb-true (suc i) 64 (and_parts _ _ h).1) in subst P (add-one i) (here i l)
      | inr h ↦ none (suc i) h
    ]
