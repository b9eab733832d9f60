use Rattle.std.proofs.Common.{sym, refl, ap, ◌∙◌, subst, rules}
use Rattle.desk.specs.Views.{state}
use Rattle.runs.proofs.Laws.{goes_on}
use Rattle.clearing.proofs.Whole.{refused_does, lifted_does}
use Rattle.clearing.proofs.room.Room.make.Goals as goal

pub returns-in_err-figure : goal.returns-in_err-figure
returns-in_err-figure g c =
    let s = state g.B.Book g.R.MarginRule c.args.self.now.desk in
    let m = c.in_err-figure.ensures in
    let r = c.from_residual in
    let to = state g.B.Book g.R.MarginRule c.carry_out.new.desk in
    let d = refused_does s to c.args.call c.in_err-figure.field-0.0 r.result r.ensures.1 m.moves in
    record {
      step = d;
      law = goes_on s c.args.call r.result to d;
      lent = m.lent;
      place = m.place;
      same = λ _ i. record { desk = m.same refl i };
    }

pub returns : goal.returns
returns g c =
    let s = state g.B.Book g.R.MarginRule c.args.self.now.desk in
    let m = c.in_ok-figure.ensures in
    let l = c.lift-lifted.ensures in
    let to = state g.B.Book g.R.MarginRule c.lift-lifted.new.self in
    let d = lifted_does s _ to c.args.call c.in_ok-figure.figure c.lift-lifted.result m.moves l.after l.count in
    record {
      step = d;
      law = goes_on s c.args.call _ to d;
      lent = ap (λ r. r.ghost_name) l.book ∙ m.lent;
      place = subst (λ (x : g.row.B.Denot). g.B.Book.kept c.args.self.now.desk.book.now x) (sym (ap (λ r. r.now) l.book)) m.place;
      same = search rules;
    }
