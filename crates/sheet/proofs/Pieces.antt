-- A sheet and its lines.
use Rattle.std.proofs.Common.{◌≡◌, ℕ, zero, suc, ◌+◌, ◌*◌, ◌<◌, ◌≤◌, List, [], ◌∷◌, ◌++◌, length, get_or, take, drop, sym, refl, ap, ◌∙◌, arith}
use Rattle.std.specs.List.{flat_map}
use Rattle.std.proofs.lemmas.List.{drop-drop, length-drop, length-take-le, nil_from_length, take-append-drop}
use Rattle.sheet.specs.Cuts.{lines_of, Cut}

lines_none : (xs : List ℕ) → lines_of zero xs ≡ []
unfolding lines_of
lines_none xs = refl

lines_more : (n : ℕ) (xs : List ℕ) → lines_of (suc n) xs ≡ take 50 xs ∷ lines_of n (drop 50 xs)
unfolding lines_of
lines_more n xs = refl

count_lines : (n : ℕ) (xs : List ℕ) → length (lines_of n xs) ≡ n
count_lines zero xs = ap length (lines_none xs)
count_lines (suc n) xs = ap length (lines_more n xs) ∙ ap suc (count_lines n (drop 50 xs))

pub line_is : (n : ℕ) (xs : List ℕ) (i : ℕ) → i < n → get_or (lines_of n xs) i [] ≡ take 50 (drop (i * 50) xs)
line_is zero xs i within = absurd (omega arith)
line_is (suc n) xs zero within = ap (λ l. get_or l 0 []) (lines_more n xs)
line_is (suc n) xs (suc i) within =
    let next : 50 + i * 50 ≡ suc i * 50 = omega arith in
    ap (λ l. get_or l (suc i) []) (lines_more n xs) ∙ line_is n (drop 50 xs) i (omega arith) ∙ ap (take 50) (drop-drop (i * 50) 50 xs) ∙ ap (λ k. take 50 (drop k xs)) next

joined_lines : (n : ℕ) (xs : List ℕ) → n * 50 ≡ length xs → flat_map (λ line. line) (lines_of n xs) ≡ xs
joined_lines zero xs long = ap (flat_map (λ line. line)) (lines_none xs) ∙ sym (nil_from_length xs (omega arith))
joined_lines (suc n) xs long =
    ap (flat_map (λ line. line)) (lines_more n xs)
    ∙ ap (λ l. take 50 xs ++ l) (joined_lines n (drop 50 xs) (omega (arith, length-drop 50 xs)))
    ∙ take-append-drop 50 xs

pub cut_whole : (n : ℕ) (xs : List ℕ) → n * 50 ≡ length xs → n ≤ 1000 → Cut n xs
cut_whole n xs long few =
    record {
      few = few;
      count = count_lines n xs;
      wide = λ i within. ap length (line_is n xs i within) ∙ length-take-le 50 (drop (i * 50) xs) (omega (arith, length-drop (i * 50) xs));
      whole = joined_lines n xs long;
    }
