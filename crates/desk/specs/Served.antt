-- What a call is to the desk, and to the book that the desk was lent.
use Rattle.std.specs.Prelude.{◌≡◌, ℕ, false, is_ok, Result}
use Rattle.terms.specs.declared.call.Call.{Call}
use Rattle.terms.specs.declared.fault.Fault.{Fault}
use Rattle.book.specs.declared.kind.Book.{Ghosts as BookGhosts}
use Rattle.margin.specs.declared.rule.MarginRule.{Ghosts as RuleGhosts}
use Rattle.desk.specs.declared.desk.Desk.{Desk}
use Rattle.desk.specs.Moves.{Moves}
use Rattle.desk.specs.Views.{state}

module _ {B R : Type 0} (book : BookGhosts B) (rule : RuleGhosts R) where
  pub record Served (from : Desk B R) (call : Call) (o : Result ℕ Fault) (to : Desk B R) : Type 0 where
    -- refused or carried out, as the clearing steps say
    pub moves : Moves (state book rule from) call o (state book rule to)
    -- the desk holds the book that it was lent, in the memory that was lent to that
    pub lent : to.book.ghost_name ≡ from.book.ghost_name
    pub place : book.kept from.book.now to.book.now
    -- a refusal leaves desk, book and rule as they were
    pub same : is_ok o ≡ false → to ≡ from
