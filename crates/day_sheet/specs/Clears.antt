-- A sheet carried out on a room, line by line.
use Rattle.std.specs.Prelude.{◌≡◌, ℕ, ◌+◌, ◌≤◌, true, false, List, [], ◌∷◌, ◌++◌, length, is_ok, Ok, Err, vec_items, Result, Vec}
use Rattle.std.specs.declared.alloc.AllocError.{AllocError}
use Rattle.std.specs.declared.alloc.Global.{Global}
use Rattle.terms.specs.declared.call.Answer.{Answer}
use Rattle.terms.specs.declared.call.Call.{Call}
use Rattle.terms.specs.declared.fault.Fault.{Fault}
use Rattle.book.specs.declared.kind.Book.{Ghosts as BookGhosts}
use Rattle.margin.specs.declared.rule.MarginRule.{Ghosts as RuleGhosts}
use Rattle.steps.specs.State.{State}
use Rattle.steps.specs.Steps.{Does}
use Rattle.sheet.specs.Cuts.{count_of, lines_of}
use Rattle.sheet.specs.Lines.{line_said}
use Rattle.sheet.specs.Printed.{answered, columns_of, fitting}
use Rattle.runs.specs.Runs.{Event, event, Run}
use Rattle.runs.specs.Law.{Law}
use Rattle.clearing.specs.declared.room.Room.{Room}
use Rattle.clearing.specs.Made.{state_of}

-- a line that is read as a call makes it; any other is refused and changes nothing
abbrev pub Carries : State → Result Call Fault → Result Answer Fault → State → Type 0
Carries s (Ok call) o s' = Does s call o s'
Carries s (Err f) o s' = (o ≡ Err f) × (s' ≡ s)

-- lines one after the other, each with its outcome
abbrev pub Clears : State → List (List ℕ) → List (Result Answer Fault) → State → Type 0
Clears s [] [] s' = s' ≡ s
Clears s [] (o ∷ os) s' = ⊥
Clears s (l ∷ ls) [] s' = ⊥
Clears s (l ∷ ls) (o ∷ os) s' = (m : State) × Carries s (line_said l) o m × Clears m ls os s'

-- a run with the calls of these lines after it, the latest first
abbrev pub noted : List Event → Result Call Fault → Result Answer Fault → List Event
noted h (Ok call) o = event call o ∷ h
noted h (Err f) o = h

abbrev pub then : List Event → List (List ℕ) → List (Result Answer Fault) → List Event
then h [] os = h
then h (l ∷ ls) [] = h
then h (l ∷ ls) (o ∷ os) = then (noted h (line_said l) o) ls os

-- the printed lines of outcomes, the first of which is that of line k
abbrev pub printed : ℕ → List (Result Answer Fault) → List ℕ
printed k [] = []
printed k (o ∷ os) = columns_of (answered k o) ++ printed (k + 1) os

-- every number of theirs fits its column
abbrev pub AllFit : ℕ → List (Result Answer Fault) → Type 0
AllFit k [] = Unit {0}
AllFit k (o ∷ os) = (fitting (answered k o) ≡ true) × AllFit (k + 1) os

module _ {B R : Type 0} (book : BookGhosts B) (rule : RuleGhosts R) where
  -- one line on a room
  pub record Carried (from : Room B R) (line : List ℕ) (o : Result Answer Fault) (to : Room B R) : Type 0 where
    pub step : Carries (state_of book rule from) (line_said line) o (state_of book rule to)
    pub fit : (k : ℕ) → k ≤ 1000 → fitting (answered k o) ≡ true
    pub lent : to.desk.book.ghost_name ≡ from.desk.book.ghost_name
    pub place : book.kept from.desk.book.now to.desk.book.now
    pub same : is_ok o ≡ false → to ≡ from

  -- all lines of a sheet
  pub record Cleared (from : Room B R) (lines : List (List ℕ)) (bytes : List ℕ) (to : Room B R) : Type 0 where
    pub outcomes : List (Result Answer Fault)
    -- one outcome for each line
    pub each : length outcomes ≡ length lines
    pub steps : Clears (state_of book rule from) lines outcomes (state_of book rule to)
    -- they are what is printed, line 1 first, and fit their columns
    pub shown : bytes ≡ printed 1 outcomes
    pub fit : AllFit 1 outcomes
    -- whatever run led here goes on with the calls of the sheet, and the whole law stands of that run
    pub law : (h : List Event) → Run h (state_of book rule from) → (r : Run (then h lines outcomes) (state_of book rule to)) × Law (then h lines outcomes) (state_of book rule to) r
    pub lent : to.desk.book.ghost_name ≡ from.desk.book.ghost_name
    pub place : book.kept from.desk.book.now to.desk.book.now

  -- a sheet that is refused has one printed line, with line number 0
  abbrev pub ByCount : Room B R → List ℕ → Result ℕ Fault → List ℕ → Room B R → Type 0
  ByCount from sheet (Ok n) bytes to = Cleared from (lines_of n sheet) bytes to
  ByCount from sheet (Err f) bytes to = (bytes ≡ columns_of (answered 0 (Err f))) × (fitting (answered 0 (Err f)) ≡ true) × (to ≡ from)

  -- for want of memory nothing is done
  abbrev pub SheetCleared : Room B R → List ℕ → Result (Vec ℕ Global) AllocError → Room B R → Type 0
  SheetCleared from sheet (Ok page) to = ByCount from sheet (count_of (length sheet)) (vec_items page) to
  SheetCleared from sheet (Err e) to = to ≡ from
