-- From what a call does before anybody is lifted to the whole step, and from steps to lists of them.
use Rattle.std.proofs.Common.{◌≡◌, ℕ, List, [], ◌∷◌, ◌++◌, IsErrAnd, Ok, Err, count_by, Result, sym, refl, ap, ◌∙◌, subst}
use Rattle.std.specs.List.{range_with_len}
use Rattle.std.proofs.lemmas.Result.{err_from_is_err_and}
use Rattle.terms.specs.declared.call.Answer.{Answer}
use Rattle.terms.specs.declared.call.Call.{Call}
use Rattle.terms.specs.declared.fault.Fault.{Fault}
use Rattle.steps.specs.State.{State, customers}
use Rattle.steps.specs.Steps.{Does, lift, freed}
use Rattle.runs.specs.Law.{Plays}
use Rattle.desk.specs.Moves.{Moves}

pub refused_does : (s s' : State) (c : Call) (f : Fault) (r : Result Answer Fault) → IsErrAnd r (λ x. x ≡ f) → Moves s c (Err f) s' → Does s c r s'
refused_does s s' c f r b m =
    let p = err_from_is_err_and r b in
    subst (λ x. Does s c x s') (sym (p.1 ∙ ap Err p.2)) m

pub lifted_does : (s m s' : State) (c : Call) (figure lifted : ℕ) → Moves s c (Ok figure) m → s' ≡ lift m → lifted ≡ count_by (freed m) (range_with_len 1 customers) → Does s c (Ok (record { figure = figure; lifted = lifted })) s'
lifted_does s m s' c figure lifted v e n = (
  v.0,
  (λ i. record { figure = v.1 i; lifted = (n ∙ ap (λ x. count_by (freed x) (range_with_len 1 customers)) v.2) i }),
  e ∙ ap lift v.2,
)

-- one call more
pub plays_more : (cs : List Call) (os : List (Result Answer Fault)) (s m s' : State) (c : Call) (o : Result Answer Fault) → Plays s cs os m → Does m c o s' → Plays s (cs ++ c ∷ []) (os ++ o ∷ []) s'
plays_more [] [] s m s' c o p d = (s', subst (λ x. Does x c o s') p d, refl)
plays_more [] (x ∷ os) s m s' c o p d = absurd p
plays_more (x ∷ cs) [] s m s' c o p d = absurd p
plays_more (x ∷ cs) (y ∷ os) s m s' c o p d = (p.0, p.1, plays_more cs os p.0 m s' c o p.2 d)
