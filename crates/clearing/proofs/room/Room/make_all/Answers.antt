use Rattle.std.proofs.Common.{◌+◌, List, [], ◌∷◌, ◌++◌, take, vec_items, Result, sym, refl, ◌∙◌, subst, arith}
use Rattle.std.proofs.lemmas.List.{take_more, take_all}
use Rattle.terms.specs.declared.call.Answer.{Answer}
use Rattle.terms.specs.declared.call.Call.{Call}
use Rattle.terms.specs.declared.call.Call.TheVariants.{Begin}
use Rattle.terms.specs.declared.fault.Fault.{Fault}
use Rattle.runs.specs.Law.{Plays}
use Rattle.runs.proofs.Laws.{goes_through}
use Rattle.clearing.specs.Made.{state_of}
use Rattle.clearing.proofs.Whole.{plays_more}
use Rattle.clearing.proofs.room.Room.make_all.Goals as goal

pub loop-call-init : goal.loop-call-init
loop-call-init g c =
    let s = state_of g.B.Book g.R.MarginRule c.args.self.now in
    let m = c.in_ok-answers.ensures in
    (m.len, m.capacity, subst (λ (os : List (Result Answer Fault)). Plays s [] os s) (sym m.items) refl, refl, g.B.Book.laws.stays _)

pub loop-call-preserved : goal.loop-call-preserved
loop-call-preserved g c =
    let s = state_of g.B.Book g.R.MarginRule c.args.self.now in
    let to = state_of g.B.Book g.R.MarginRule c.make.new.self in
    let calls = c.args.calls.now in
    let i = c.loop-call.call-index in
    let v = c.loop-call.invariant in
    let e = c.push_reserved.ensures in
    let m = c.make.ensures in
    let p = plays_more (take i calls) (vec_items c.loop-call.answers) s _ to _ c.make.result v.2 m.step in (
      omega (arith, e.len, v.0),
      omega (arith, e.capacity, v.1),
      subst (λ (os : List (Result Answer Fault)). Plays s (take (i + 1) calls) os to) (sym e.items)
          (subst (λ (cs : List Call). Plays s cs (vec_items c.loop-call.answers ++ c.make.result ∷ []) to) (sym (take_more calls i Begin c.loop-call-test.true)) p),
      m.lent ∙ v.3,
      g.B.Book.laws.joins _ _ _ v.4 m.place,
    )

pub returns : goal.returns
returns g c =
    let s = state_of g.B.Book g.R.MarginRule c.args.self.now in
    let to = state_of g.B.Book g.R.MarginRule c.loop-call.self in
    let v = c.loop-call.invariant in
    let p = subst (λ (cs : List Call). Plays s cs (vec_items c.loop-call.answers) to) (take_all c.loop-call.call-index c.args.calls.now c.loop-call-test.false) v.2 in
    record { steps = p; law = goes_through s c.args.calls.now (vec_items c.loop-call.answers) to p; lent = v.3; place = v.4 }
