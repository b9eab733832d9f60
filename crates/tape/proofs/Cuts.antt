-- Where a text is cut.
use Rattle.std.proofs.Common.{◌≡◌, ℕ, ◌≤◌, Bool, true, false, cond, ltb, List, length, drop, Some, None, Option, refl, sym, ap, ◌∙◌, arith}
use Rattle.std.proofs.lemmas.Bool.{ltb-false}
use Rattle.std.proofs.lemmas.List.{drop_all}
use Rattle.std.specs.List.{position_or_len}
use Rattle.std.specs.Option.{unwrap_or}

if_within : (b : Bool) (n i : ℕ) → Some i ≡ cond b (Some n) None → i ≡ n
if_within true n i e = cc
if_within false n i e = cc

if_past : (b : Bool) (n : ℕ) → None ≡ cond b (Some n) None → b ≡ false
if_past true n e = cc
if_past false n e = refl

-- the place that a search found, and that it found none
module _ (p : ℕ → Bool) (text : List ℕ) where
  abbrev pub Sought : Option ℕ → Type 0
  Sought o = o ≡ cond (ltb (position_or_len p text) (length text)) (Some (position_or_len p text)) None

  pub found : (i : ℕ) → Sought (Some i) → i ≡ position_or_len p text
  found i e = if_within (ltb (position_or_len p text) (length text)) (position_or_len p text) i e

  pub lost : Sought None → length text ≤ position_or_len p text
  lost e = ltb-false (position_or_len p text) (length text) (if_past (ltb (position_or_len p text) (length text)) (position_or_len p text) e)

  pub from_there : (o : Option ℕ) → Sought o → drop (unwrap_or o (length text)) text ≡ drop (position_or_len p text) text
  from_there None e = drop_all (length text) text (omega arith) ∙ sym (drop_all (position_or_len p text) text (lost e))
  from_there (Some i) e = ap (λ n. drop n text) (found i e)
