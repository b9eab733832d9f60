use Rattle.std.proofs.Common.{[], sym, subst}
use Rattle.steps.specs.State.{house}
use Rattle.runs.specs.Runs.{Run}
use Rattle.runs.proofs.Laws.{runs_exist}
use Rattle.clearing.proofs.room.Room.new.Goals as goal

pub returns : goal.returns
unfolding house
returns g c =
    let b = c.args.book.now in
    let e = c.new.ensures in
    record {
      run = subst (Run []) (sym e.state) (runs_exist.begins (g.B.Book.balances b) (g.B.Book.lines b) g.B.Book.COST (g.R.MarginRule.asked c.args.rule.now) (g.B.Book.laws.accounts b) (g.R.MarginRule.laws c.args.rule.now));
      book = e.book;
      lent = e.lent;
      rule = e.rule;
    }
