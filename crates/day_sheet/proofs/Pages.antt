-- Lines carried out and printed, one more at the end.
use Rattle.std.proofs.Common.{◌≡◌, ℕ, zero, suc, ◌+◌, ◌*◌, ◌≤◌, true, List, [], ◌∷◌, ◌++◌, length, take, drop, Ok, Err, Result, sym, refl, ap, ◌∙◌, subst, add-one, arith}
use Rattle.std.proofs.lemmas.List.{append_assoc, append-nil, drop-drop, drop_at, length-append, length-drop, length_push, take_at}
use Rattle.terms.specs.declared.call.Answer.{Answer}
use Rattle.terms.specs.declared.call.Call.{Call}
use Rattle.terms.specs.declared.fault.Fault.{Fault}
use Rattle.steps.specs.State.{State}
use Rattle.sheet.specs.Cuts.{lines_of}
use Rattle.sheet.specs.Lines.{line_said}
use Rattle.sheet.specs.Printed.{answered, columns_of, fitting}
use Rattle.runs.specs.Runs.{Event, Run, more}
use Rattle.day_sheet.specs.Clears.{Carries, Clears, noted, then, printed, AllFit}

-- one line more of a text
pub lines_more : (n : ℕ) (xs : List ℕ) → lines_of (n + 1) xs ≡ lines_of n xs ++ take 50 (drop (n * 50) xs) ∷ []
unfolding lines_of
lines_more zero xs = refl
lines_more (suc n) xs =
    ap (λ k. lines_of k xs) (add-one (suc n))
    ∙ ap (λ ls. take 50 xs ∷ ls)
    (ap (λ k. lines_of k (drop 50 xs)) (sym (add-one n)) ∙ lines_more n (drop 50 xs)
    ∙ ap (λ ys. lines_of n (drop 50 xs) ++ take 50 ys ∷ []) (drop-drop (n * 50) 50 xs ∙ ap (λ k. drop k xs) (omega arith)))

pub clears_more : (ls : List (List ℕ)) (os : List (Result Answer Fault)) (s m s' : State) (l : List ℕ) (o : Result Answer Fault) → Clears s ls os m → Carries m (line_said l) o s' → Clears s (ls ++ l ∷ []) (os ++ o ∷ []) s'
clears_more [] [] s m s' l o p d = (s', subst (λ x. Carries x (line_said l) o s') p d, refl)
clears_more [] (x ∷ os) s m s' l o p d = absurd p
clears_more (x ∷ ls) [] s m s' l o p d = absurd p
clears_more (x ∷ ls) (y ∷ os) s m s' l o p d = (p.0, p.1, clears_more ls os p.0 m s' l o p.2 d)

pub printed_more : (k : ℕ) (os : List (Result Answer Fault)) (o : Result Answer Fault) → printed k (os ++ o ∷ []) ≡ printed k os ++ columns_of (answered (k + length os) o)
printed_more k [] o = append-nil (columns_of (answered k o)) ∙ ap (λ n. columns_of (answered n o)) (omega arith)
printed_more k (x ∷ os) o =
    ap (λ ys. columns_of (answered k x) ++ ys) (printed_more (k + 1) os o ∙ ap (λ n. printed (k + 1) os ++ columns_of (answered n o)) (omega arith))
    ∙ sym (append_assoc (columns_of (answered k x)) (printed (k + 1) os) _)

pub all_fit_more : (k : ℕ) (os : List (Result Answer Fault)) (o : Result Answer Fault) → AllFit k os → fitting (answered (k + length os) o) ≡ true → AllFit k (os ++ o ∷ [])
all_fit_more k [] o a f = (ap (λ n. fitting (answered n o)) (let e : k ≡ k + 0 = omega arith in e) ∙ f, tt)
all_fit_more k (x ∷ os) o a f = (a.0, all_fit_more (k + 1) os o a.1 (ap (λ n. fitting (answered n o)) (let e : k + 1 + length os ≡ k + suc (length os) = omega arith in e) ∙ f))

-- the run that the lines make
carried_run : (h : List Event) (s s' : State) (c : Result Call Fault) (o : Result Answer Fault) → Run h s → Carries s c o s' → Run (noted h c o) s'
carried_run h s s' (Ok call) o r d = more call o r d
carried_run h s s' (Err f) o r d = subst (Run h) (sym d.1) r

pub run_through : (ls : List (List ℕ)) (os : List (Result Answer Fault)) (s s' : State) (h : List Event) → Clears s ls os s' → Run h s → Run (then h ls os) s'
run_through [] [] s s' h p r = subst (Run h) (sym p) r
run_through [] (o ∷ os) s s' h p r = absurd p
run_through (l ∷ ls) [] s s' h p r = absurd p
run_through (l ∷ ls) (o ∷ os) s s' h p r = run_through ls os p.0 s' (noted h (line_said l) o) p.2 (carried_run h s p.0 (line_said l) o r p.1)

-- each line has its outcome
pub as_many : (ls : List (List ℕ)) (os : List (Result Answer Fault)) (s s' : State) → Clears s ls os s' → length os ≡ length ls
as_many [] [] s s' p = refl
as_many [] (o ∷ os) s s' p = absurd p
as_many (l ∷ ls) [] s s' p = absurd p
as_many (l ∷ ls) (o ∷ os) s s' p = ap suc (as_many ls os p.0 s' p.2)

-- the line at index i comes off what is left of a sheet
pub line_cut : (i j : ℕ) (sheet rest line after : List ℕ) → j ≡ i + 1 → rest ≡ drop (i * 50) sheet → rest ≡ line ++ after → length line ≡ 50 → (line ≡ take 50 (drop (i * 50) sheet)) × (after ≡ drop (j * 50) sheet) × (j * 50 ≤ length sheet)
line_cut i j sheet rest line after next at cut wide =
    let e : drop (i * 50) sheet ≡ line ++ after = sym at ∙ cut in (
      sym (ap (take 50) e ∙ take_at line after 50 wide),
      sym (ap (drop 50) e ∙ drop_at line after 50 wide) ∙ drop-drop 50 (i * 50) sheet ∙ ap (λ k. drop k sheet) (omega (arith, next)),
      omega (arith, next, ap length e, length-append line after, length-drop (i * 50) sheet),
    )

-- what is carried out and printed so far
pub record Page (s : State) (sheet : List ℕ) (i : ℕ) (os : List (Result Answer Fault)) (bytes : List ℕ) (s' : State) : Type 0 where
  pub each : length os ≡ i
  pub steps : Clears s (lines_of i sheet) os s'
  pub shown : bytes ≡ printed 1 os
  pub fit : AllFit 1 os

pub page_none : (s : State) (sheet bytes : List ℕ) (i : ℕ) → i ≡ 0 → bytes ≡ [] → Page s sheet i [] bytes s
unfolding lines_of
page_none s sheet bytes i z e = subst (λ k. Page s sheet k [] bytes s) (sym z) (record { each = refl; steps = refl; shown = e; fit = tt })

pub page_more : (s m s' : State) (sheet : List ℕ) (i j n : ℕ) (os : List (Result Answer Fault)) (bytes after line : List ℕ) (o : Result Answer Fault) → j ≡ i + 1 → n ≡ i → Page s sheet i os bytes m → line ≡ take 50 (drop (i * 50) sheet) → Carries m (line_said line) o s' → fitting (answered (n + 1) o) ≡ true → after ≡ bytes ++ columns_of (answered (n + 1) o) → Page s sheet j (os ++ o ∷ []) after s'
page_more s m s' sheet i j n os bytes after line o next index p l d f e =
    let at : n + 1 ≡ 1 + length os = omega (arith, index, p.each) in
    record {
      each = length_push os o ∙ omega (arith, next, p.each);
      steps =
          subst (λ (ls : List (List ℕ)). Clears s ls (os ++ o ∷ []) s') (sym (ap (λ k. lines_of k sheet) next ∙ lines_more i sheet ∙ ap (λ x. lines_of i sheet ++ x ∷ []) (sym l)))
          (clears_more (lines_of i sheet) os s m s' line o p.steps d);
      shown = e ∙ (λ k. p.shown k ++ columns_of (answered (at k) o)) ∙ sym (printed_more 1 os o);
      fit = all_fit_more 1 os o p.fit (ap (λ n. fitting (answered n o)) (sym at) ∙ f);
    }
