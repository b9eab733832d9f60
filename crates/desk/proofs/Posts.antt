-- Net amounts, account by account.
use Rattle.std.proofs.Common.{◌≡◌, ℕ, ◌+◌, ◌-◌, ◌<◌, ◌≤◌, cond, eqb, ◌≢◌, List, map, length, get_or, set, replicate, ℤ, pos, ◌-ℤ◌, neg_ℤ, sym, refl, ap, ◌∙◌, ⊎_elim, arith}
use Rattle.std.specs.List.{range_with_len}
use Rattle.std.proofs.lemmas.List.{ext_get_or, length-set, get_or-set_same, get_or-set_other, get_or-replicate}
use Rattle.std.proofs.lemmas.List.FromFn.{length-map-range_with_len, get_or-map-range_with_len}
use Rattle.std.proofs.lemmas.Bool.{cases_eq, cond-true, cond-false, eq-eqb, ne_eqb}
use Rattle.std.proofs.lemmas.Int.{ints}
use Rattle.std.proofs.lemmas.Bool.Decides.{nat_tests}
use Rattle.terms.specs.declared.call.Call.{Call}
use Rattle.terms.specs.declared.call.Call.TheVariants.{Cover}
use Rattle.steps.specs.Refusals.{broker_of}
use Rattle.steps.specs.State.{State, house}
use Rattle.steps.specs.Steps.{alone, post, posts, covered}

-- a list is a function of the account, if each element is
pub by_account : (f : ℕ → ℤ) (xs : List ℤ) → length xs ≡ 64 → ((i : ℕ) → i < 64 → get_or xs i (pos 0) ≡ f (i + 1)) → xs ≡ map f (range_with_len 1 house)
unfolding house
by_account f xs l each =
    ext_get_or (pos 0) xs (map f (range_with_len 1 64)) (l ∙ sym (length-map-range_with_len f 1 64))
    (λ i h. each i (omega (arith, l)) ∙ sym (get_or-map-range_with_len f 1 64 i (i + 1) (pos 0) (omega (arith, l)) (omega arith)))

-- nothing for any account
abbrev pub zeros : List ℤ
zeros = replicate 64 (pos 0)

pub zeros_are : zeros ≡ map (λ _. pos 0) (range_with_len 1 house)
zeros_are = by_account (λ _. pos 0) zeros refl (λ i h. get_or-replicate 64 i (pos 0) (pos 0) h)

-- what is written for one account, over what was there
pub written : (f : ℕ → ℤ) (xs : List ℤ) (k : ℕ) (z : ℤ) → 1 ≤ k → k ≤ 64 → xs ≡ map f (range_with_len 1 house) → set xs (k - 1) z ≡ map (λ n. cond (eqb n k) z (f n)) (range_with_len 1 house)
unfolding house
written f xs k z low high e =
    by_account (λ n. cond (eqb n k) z (f n)) (set xs (k - 1) z) (length-set xs (k - 1) z ∙ all)
    (λ i h. ⊎_elim
    (λ e. (λ j. get_or (set xs (e j) z) i (pos 0)) ∙ get_or-set_same xs i z (pos 0) (omega (arith, all)) ∙ sym (cond-true (eqb (i + 1) k) z (f (i + 1)) (eq-eqb (i + 1) k (omega arith))))
    (λ n. let ne : i ≢ k - 1 = λ e. n (sym e) in get_or-set_other xs (k - 1) i z (pos 0) ne ∙ was i h ∙ sym (cond-false (eqb (i + 1) k) z (f (i + 1)) (ne_eqb (i + 1) k (λ e. n (omega arith)))))
    (cases_eq (k - 1) i))
  where
    all : length xs ≡ 64
    all = ap length e ∙ length-map-range_with_len f 1 64

    was : (i : ℕ) → i < 64 → get_or xs i (pos 0) ≡ f (i + 1)
    was i h = ap (λ l. get_or l i (pos 0)) e ∙ get_or-map-range_with_len f 1 64 i (i + 1) (pos 0) h (omega arith)

-- nothing, but this for one account
pub one_set : (k : ℕ) (z : ℤ) → 1 ≤ k → k ≤ 64 → set zeros (k - 1) z ≡ map (alone k z) (range_with_len 1 house)
one_set k z low high = written (λ _. pos 0) zeros k z low high zeros_are

-- the parties of a deal and the house
pub deal_set : (b s : ℕ) (x y z : ℤ) → 1 ≤ b → b ≤ 56 → 1 ≤ s → s ≤ 56 → set (set (set zeros 63 z) (s - 1) y) (b - 1) x ≡ map (λ n. cond (eqb n b) x (cond (eqb n s) y (cond (eqb n 64) z (pos 0)))) (range_with_len 1 house)
deal_set b s x y z lb hb ls hs =
    let h = written (λ _. pos 0) zeros 64 z (omega arith) (omega arith) zeros_are in
    written _ _ b x lb (omega arith) (written _ _ s y ls (omega arith) h)

-- what one account pays and another receives
pub transfer_set : (from to a : ℕ) → 57 ≤ from → from ≤ 63 → 1 ≤ to → to ≤ 56 → set (set zeros (from - 1) (neg_ℤ (pos a))) (to - 1) (pos a) ≡ map (λ n. alone to (pos a) n -ℤ alone from (pos a) n) (range_with_len 1 house)
transfer_set from to a lf hf lt ht =
    written _ _ to (pos a) lt (omega arith) (written _ zeros from (neg_ℤ (pos a)) (omega arith) (omega arith) zeros_are)
    ∙ (λ i. map (λ n. each n i) (range_with_len 1 house))
  where
    each : (n : ℕ) → cond (eqb n to) (pos a) (cond (eqb n from) (neg_ℤ (pos a)) (pos 0)) ≡ alone to (pos a) n -ℤ alone from (pos a) n
    each n = grind (arith, nat_tests, ints)

pub posts_are : (s : State) (c : Call) → posts s c ≡ map (post s c) (range_with_len 1 house)
unfolding posts
posts_are s c = refl

-- one account is posted to, as the call says
pub posts_alone : (s : State) (c : Call) {k k' : ℕ} {z z' : ℤ} {ms : List ℤ} → ms ≡ map (alone k z) (range_with_len 1 house) → k ≡ k' → z ≡ z' → map (post s c) (range_with_len 1 house) ≡ map (alone k' z') (range_with_len 1 house) → ms ≡ posts s c
posts_alone s c e p q is = e ∙ (λ i. map (alone (p i) (q i)) (range_with_len 1 house)) ∙ sym is ∙ sym (posts_are s c)

-- what cover moves, from the broker to the customer
pub transfers : (s : State) (c : ℕ) {from to amount : ℕ} {ms : List ℤ} → from ≡ broker_of s c → to ≡ c → amount ≡ covered s c → ms ≡ map (λ n. alone to (pos amount) n -ℤ alone from (pos amount) n) (range_with_len 1 house) → ms ≡ posts s (Cover c)
transfers s c f t a e =
    e ∙ (λ i. map (λ n. alone (t i) (pos (a i)) n -ℤ alone (f i) (pos (a i)) n) (range_with_len 1 house)) ∙ sym (posts_are s (Cover c))
