-- What a call posts, account by account.
use Rattle.std.proofs.Common.{◌≡◌, ℕ, ◌-◌, true, cond, ltb, leb, map, length, get_or, pos, ◌+ℤ◌, refl, ap, ◌∙◌, arith}
use Rattle.std.specs.List.{range_with_len}
use Rattle.std.proofs.lemmas.List.FromFn.{get_or-map-range_with_len, length-map-range_with_len}
use Rattle.std.proofs.lemmas.Bool.{and_parts, leb-true, ltb-true}
use Rattle.terms.specs.declared.call.Call.{Call}
use Rattle.book.specs.Balances.{is_account, of_account}
use Rattle.book.proofs.Added.{of_account_added}
use Rattle.steps.specs.State.{State, house, balance}
use Rattle.steps.specs.Steps.{post, posts, moved}

pub houses : house ≡ 64
unfolding house
houses = refl

pub length_posts : (s : State) (c : Call) → length (posts s c) ≡ house
unfolding posts
length_posts s c = length-map-range_with_len (post s c) 1 house

pub posted : (s : State) (c : Call) (n : ℕ) → is_account n ≡ true → of_account (posts s c) n ≡ post s c n
unfolding posts
posted s c n is =
    let parts = and_parts (ltb 0 n) (leb n 64) is in
    let low = ltb-true 0 n parts.0 in
    let high = leb-true n 64 parts.1 in
    ap (λ b. cond b (get_or (map (post s c) (range_with_len 1 house)) (n - 1) (pos 0)) (pos 0)) is
    ∙ get_or-map-range_with_len (post s c) 1 house (n - 1) n (pos 0) (omega (arith, houses)) (omega arith)

-- a balance after a call
pub balance_moved : (s : State) (c : Call) (n : ℕ) → length s.balances ≡ house → is_account n ≡ true → balance (moved s c) n ≡ balance s n +ℤ post s c n
balance_moved s c n wide is = of_account_added s.balances (posts s c) (wide ∙ houses) n ∙ ap (λ z. balance s n +ℤ z) (posted s c n is)
