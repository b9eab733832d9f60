-- One step through a column that is read.
use Rattle.std.proofs.Common.{◌≡◌, ℕ, ◌^◌, ◌<◌, ◌≤◌, true, ◌&&◌, leb, List, length, Some, arith}
use native.Mathlib.Nat.{pow-le-pow_right}
use Rattle.std.proofs.lemmas.Bool.Decides.{nat_tests}
use Rattle.sheet.specs.Numbers.{digit_of, digits_of, word_of}

pub is_digit : (b : ℕ) → 48 ≤ b → b ≤ 57 → (leb 48 b && leb b 57) ≡ true
is_digit b low high = grind (arith, nat_tests)

pub digit_small : (b d : ℕ) → Some d ≡ digit_of b → d < 10
digit_small b d e = grind (arith, nat_tests)

pub below_18 : (n i : ℕ) → n < 10 ^ i → i ≤ 18 → n < 1000000000000000000
below_18 n i h1 h2 = grind (arith, pow-le-pow_right)

pub word_is : (word : List ℕ) → length word ≤ 18 → word_of word ≡ digits_of 0 word
word_is word h = grind arith
