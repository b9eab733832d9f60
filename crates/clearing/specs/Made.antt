-- What a call is to the room, to its book, and to every run that led there.
use Rattle.std.specs.Prelude.{◌≡◌, false, List, is_ok, Ok, Err, vec_items, Result, Vec}
use Rattle.std.specs.declared.alloc.AllocError.{AllocError}
use Rattle.std.specs.declared.alloc.Global.{Global}
use Rattle.terms.specs.declared.call.Answer.{Answer}
use Rattle.terms.specs.declared.call.Call.{Call}
use Rattle.terms.specs.declared.fault.Fault.{Fault}
use Rattle.book.specs.declared.kind.Book.{Ghosts as BookGhosts}
use Rattle.margin.specs.declared.rule.MarginRule.{Ghosts as RuleGhosts}
use Rattle.steps.specs.State.{State}
use Rattle.steps.specs.Steps.{Does}
use Rattle.runs.specs.Law.{GoesOn, Plays, GoesThrough}
use Rattle.desk.specs.Views.{state}
use Rattle.clearing.specs.declared.room.Room.{Room}

module _ {B R : Type 0} (book : BookGhosts B) (rule : RuleGhosts R) where
  abbrev pub state_of : Room B R → State
  state_of r = state book rule r.desk

  pub record Made (from : Room B R) (call : Call) (o : Result Answer Fault) (to : Room B R) : Type 0 where
    -- it does exactly what the clearing steps say
    pub step : Does (state_of from) call o (state_of to)
    -- whatever run led here goes on with it, and the whole law stands of that run
    pub law : GoesOn (state_of from) call o (state_of to)
    -- the room holds the book that it was lent, in the memory that was lent to that
    pub lent : to.desk.book.ghost_name ≡ from.desk.book.ghost_name
    pub place : book.kept from.desk.book.now to.desk.book.now
    -- a refusal leaves room, book and rule as they were
    pub same : is_ok o ≡ false → to ≡ from

  pub record Played (from : Room B R) (calls : List Call) (os : List (Result Answer Fault)) (to : Room B R) : Type 0 where
    pub steps : Plays (state_of from) calls os (state_of to)
    pub law : GoesThrough (state_of from) calls os (state_of to)
    pub lent : to.desk.book.ghost_name ≡ from.desk.book.ghost_name
    pub place : book.kept from.desk.book.now to.desk.book.now

  -- all calls are made, or none
  abbrev pub MadeAll : Room B R → List Call → Result (Vec (Result Answer Fault) Global) AllocError → Room B R → Type 0
  MadeAll from calls (Ok answers) to = Played from calls (vec_items answers) to
  MadeAll from calls (Err e) to = to ≡ from
