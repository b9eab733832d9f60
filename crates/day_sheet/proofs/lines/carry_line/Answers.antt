use Rattle.std.proofs.Common.{Err, Result, sym, refl, ap, ◌∙◌, subst}
use Rattle.std.proofs.lemmas.Result.{err_from_is_err_and}
use Rattle.terms.specs.declared.call.Call.{Call}
use Rattle.terms.specs.declared.fault.Fault.{Fault}
use Rattle.sheet.specs.Printed.{answered, fitting}
use Rattle.clearing.specs.Made.{state_of}
use Rattle.day_sheet.specs.Clears.{Carries}
use Rattle.day_sheet.proofs.Columns.{answers_fit, unread_fit}
use Rattle.day_sheet.proofs.Rooms.{ranged}
use Rattle.day_sheet.proofs.lines.carry_line.Goals as goal

pub returns-in_err-call : goal.returns-in_err-call
returns-in_err-call g c =
    let s = state_of g.B.Book g.R.MarginRule c.args.room.now in
    let said = c.in_err-call.ensures.value in
    let r = c.from_residual in
    let p = err_from_is_err_and r.result r.ensures.1 in
    let is = p.1 ∙ ap Err p.2 in
    record {
      step = subst (λ (x : Result Call Fault). Carries s x r.result s) said (is, refl);
      fit = λ k few. ap (λ o. fitting (answered k o)) is ∙ unread_fit c.args.line.now _ k (sym said) few;
      lent = refl;
      place = g.B.Book.laws.stays _;
      same = λ _. refl;
    }

pub returns : goal.returns
returns g c =
    let s = state_of g.B.Book g.R.MarginRule c.args.room.now in
    let to = state_of g.B.Book g.R.MarginRule c.make.new.self in
    let read = c.in_ok-call.ensures in
    let call = c.in_ok-call.call in
    let m = c.make.ensures in
    record {
      step = subst (λ (x : Result Call Fault). Carries s x c.make.result to) read.value m.step;
      fit = λ k few. answers_fit s to call c.make.result k (ranged g.B.Book g.R.MarginRule c.args.room.now) (read.writing.fit call refl) m.step few;
      lent = m.lent;
      place = m.place;
      same = m.same;
    }
