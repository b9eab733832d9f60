-- A line of the answers.
use Rattle.std.specs.Prelude.{◌≡◌, ℕ, Bool, cond, ◌&&◌, List, [], ◌∷◌, ◌++◌, length, take, drop, Some, Ok, Err, Result}
use Rattle.terms.specs.declared.call.Answer.{Answer}
use Rattle.terms.specs.declared.fault.Fault.{Fault}
use Rattle.terms.specs.Faults.{number_of as fault_number, place_of as fault_place}
use Rattle.sheet.specs.declared.number.TooNarrow.{TooNarrow}
use Rattle.sheet.specs.declared.printed.PrintedLine.{PrintedLine}
use Rattle.sheet.specs.Numbers.{column_of, fits, number_of}

-- the outcome of a line
abbrev pub answered : ℕ → Result Answer Fault → PrintedLine
answered line (Ok answer) = record { line = line; number = 0; place = 0; answer = answer }
answered line (Err fault) =
    record { line = line; number = fault_number fault; place = fault_place fault; answer = record { figure = 0; lifted = 0 } }

abbrev pub columns_of : PrintedLine → List ℕ
columns_of p =
    column_of 4 p.line ++ (column_of 3 p.number ++ (column_of 5 p.place
    ++ (column_of 18 p.answer.figure ++ (column_of 3 p.answer.lifted ++ (10 ∷ [])))))

abbrev pub fitting : PrintedLine → Bool
fitting p = fits 4 p.line && (fits 3 p.number && (fits 5 p.place && (fits 18 p.answer.figure && fits 3 p.answer.lifted)))

abbrev pub printed_of : PrintedLine → Result (List ℕ) TooNarrow
printed_of p = cond (fitting p) (Ok (columns_of p)) (Err (record {}))

-- the bytes of a line show its numbers, each in its column, and end it
pub record ShowsNumbers (p : PrintedLine) (bytes : List ℕ) : Type 0 where
  pub long : length bytes ≡ 34
  pub line : number_of (take 4 bytes) ≡ Some p.line
  pub number : number_of (take 3 (drop 4 bytes)) ≡ Some p.number
  pub place : number_of (take 5 (drop 7 bytes)) ≡ Some p.place
  pub figure : number_of (take 18 (drop 12 bytes)) ≡ Some p.answer.figure
  pub lifted : number_of (take 3 (drop 30 bytes)) ≡ Some p.answer.lifted
  pub end : drop 33 bytes ≡ 10 ∷ []
