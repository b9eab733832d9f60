-- A printed line shows its numbers.
use Rattle.std.proofs.Common.{◌≡◌, ℕ, suc, ◌+◌, ◌^◌, ◌<◌, ◌≤◌, true, List, [], ◌∷◌, ◌++◌, length, take, drop, IfOk, Some, sym, refl, ap, ◌∙◌, arith}
use native.Mathlib.Nat.{pow-le-pow_right}
use Rattle.std.proofs.lemmas.List.{drop-drop, drop_at, take_at, length-append}
use Rattle.std.proofs.lemmas.Bool.{ltb-true, and_parts, cond_both}
use Rattle.sheet.specs.declared.printed.PrintedLine.{PrintedLine}
use Rattle.sheet.specs.Numbers.{column_of, fits, number_of}
use Rattle.sheet.specs.Printed.{columns_of, fitting, printed_of, ShowsNumbers}
use Rattle.sheet.specs.Rows.{row_written}
use Rattle.sheet.proofs.Columns.{length_column, column_read}

-- the column that stands at a place, and what stands after it
column_at : (at k n : ℕ) (xs rest : List ℕ) → drop at xs ≡ column_of (suc k) n ++ rest → n < 10 ^ suc k → suc k ≤ 18 → number_of (take (suc k) (drop at xs)) ≡ Some n
column_at at k n xs rest e fit narrow =
    let p : 10 ^ suc k ≤ 10 ^ 18 = pow-le-pow_right (omega arith) narrow in
    ap (λ l. number_of (take (suc k) l)) e ∙ ap number_of (take_at (column_of (suc k) n) rest (suc k) (length_column (suc k) n)) ∙ column_read k n fit (omega arith)

after_column : (at width n : ℕ) (xs rest : List ℕ) → drop at xs ≡ column_of width n ++ rest → drop (at + width) xs ≡ rest
after_column at width n xs rest e =
    sym (drop-drop width at xs) ∙ ap (drop width) e ∙ drop_at (column_of width n) rest width (length_column width n)

length_columns : (p : PrintedLine) → length (columns_of p) ≡ 34
length_columns p =
    simp (length-append) (omega (arith, length_column 4 p.line, length_column 3 p.number, length_column 5 p.place, length_column 18 p.answer.figure, length_column 3 p.answer.lifted))

pub columns_show : (p : PrintedLine) → fitting p ≡ true → ShowsNumbers p (columns_of p)
columns_show p fit =
    let a = and_parts (fits 4 p.line) _ fit in
    let b = and_parts (fits 3 p.number) _ a.1 in
    let c = and_parts (fits 5 p.place) _ b.1 in
    let d = and_parts (fits 18 p.answer.figure) (fits 3 p.answer.lifted) c.1 in
    let xs = columns_of p in
    let number = after_column 0 4 p.line xs _ refl in
    let place = after_column 4 3 p.number xs _ number in
    let figure = after_column 7 5 p.place xs _ place in
    let lifted = after_column 12 18 p.answer.figure xs _ figure in
    record {
      long = length_columns p;
      line = column_at 0 3 p.line xs _ refl (ltb-true p.line (10 ^ 4) a.0) (omega arith);
      number = column_at 4 2 p.number xs _ number (ltb-true p.number (10 ^ 3) b.0) (omega arith);
      place = column_at 7 4 p.place xs _ place (ltb-true p.place (10 ^ 5) c.0) (omega arith);
      figure = column_at 12 17 p.answer.figure xs _ figure (ltb-true p.answer.figure (10 ^ 18) d.0) (omega arith);
      lifted = column_at 30 2 p.answer.lifted xs _ lifted (ltb-true p.answer.lifted (10 ^ 3) d.1) (omega arith);
      end = after_column 30 3 p.answer.lifted xs _ lifted;
    }

pub printed_shows : (p : PrintedLine) → IfOk (printed_of p) (λ bytes. ShowsNumbers p bytes)
printed_shows p = grind (arith, columns_show, cond_both)

pub row_printed : (p : PrintedLine) → row_written 34 ((4, Some p.line) ∷ ((3, Some p.number) ∷ ((5, Some p.place) ∷ ((18, Some p.answer.figure) ∷ ((3, Some p.answer.lifted) ∷ []))))) ≡ printed_of p
row_printed p = grind arith
