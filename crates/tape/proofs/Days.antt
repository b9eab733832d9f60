-- A text by its parts between newlines, line by line.
use denote.Param.Members.{Mut}
use Rattle.std.proofs.Common.{◌≡◌, ℕ, Bor, Some, None, ◌+◌, ◌<◌, ◌⊎◌, inl, inr, Bool, true, false, cond, eqb, List, [], ◌∷◌, ◌++◌, length, get_or, drop, Ok, Err, Option, Result, refl, sym, ap, ◌∙◌, subst, arith}
use Rattle.std.proofs.lemmas.List.{append-nil, at_drop_more, at_drop_all, length_push}
use Rattle.std.proofs.lemmas.List.FromFn.{length-enumerate_from, get_or-enumerate_from}
use Rattle.std.proofs.lemmas.Iterator.{YieldsList}
use Rattle.std.proofs.lemmas.Iterator.Splits.{YieldsList-from_slice_split}
use Rattle.std.proofs.lemmas.Iterator.Consumers.{YieldsList-at, YieldsList-from_enumerate, YieldsList-turn, YieldsList-end}
use Rattle.std.specs.Fn.{CalledAt}
use Rattle.std.specs.Iterator.{Yields}
use Rattle.std.specs.Iterator.Adapters.{enumerate_source, enumerate_count, enumerate_steps}
use Rattle.std.specs.Slice.Iter.{split_rest, split_done, split_callee, split_steps}
use Rattle.std.specs.List.{slice_split, onto_first, enumerate_from}
use Rattle.std.specs.declared.slice.Split.{Split}
use Rattle.std.specs.declared.iter.Enumerate.{Enumerate}
use Rattle.std.specs.Option.{option_to_list}
use Rattle.std.specs.Result.{MatchResult, IsErrAnd}
use Rattle.price.specs.declared.day.Trade.{Trade}
use Rattle.tape.specs.declared.item.Header.{Header}
use Rattle.tape.specs.declared.item.Refusal.{Refusal}
use Rattle.tape.specs.declared.item.Refusal.TheVariants.{Line}
use Rattle.tape.specs.declared.item.Trouble.{Trouble}
use Rattle.tape.specs.Lines.{line_of}
use Rattle.tape.specs.Tapes.{Told, longer, lines_of, finish, then_rest, read_lines, nothing, day_of}

abbrev pub parts_of : List ℕ → List (List ℕ)
parts_of text = slice_split (λ b. eqb b 10) text

-- the parts are the lines, or the lines and an empty one after the last newline
abbrev Parts : List ℕ → Type 0
Parts text = (parts_of text ≡ lines_of text) ⊎ (parts_of text ≡ lines_of text ++ ([] ∷ []))

parts : (text : List ℕ) → Parts text
parts [] = inr refl
parts (b ∷ bs) = by (eqb b 10) (parts bs)
  where
    grown : (lines : List (List ℕ)) → onto_first b (lines ++ ([] ∷ [])) ≡ longer b lines ⊎ (onto_first b (lines ++ ([] ∷ [])) ≡ longer b lines ++ ([] ∷ []))
    grown [] = inl refl
    grown (line ∷ lines) = inr refl

    same : (lines : List (List ℕ)) → onto_first b lines ≡ longer b lines
    same [] = refl
    same (line ∷ lines) = refl

    by : (t : Bool) → Parts bs → (cond t ([] ∷ parts_of bs) (onto_first b (parts_of bs)) ≡ cond t ([] ∷ lines_of bs) (longer b (lines_of bs))) ⊎ (cond t ([] ∷ parts_of bs) (onto_first b (parts_of bs)) ≡ cond t ([] ∷ lines_of bs) (longer b (lines_of bs)) ++ ([] ∷ []))
    by true (inl e) = inl (ap (λ ls. [] ∷ ls) e)
    by true (inr e) = inr (ap (λ ls. [] ∷ ls) e)
    by false (inl e) = inl (ap (onto_first b) e ∙ same (lines_of bs))
    by false (inr e) =
        elim (grown (lines_of bs)) [
          | inl g ↦ inl (ap (onto_first b) e ∙ g)
          | inr g ↦ inr (ap (onto_first b) e ∙ g)
        ]

-- an empty line says nothing
blank_last : (n : ℕ) (lines : List (List ℕ)) (h : Header) (ts : List Trade) → read_lines n (lines ++ ([] ∷ [])) h ts ≡ read_lines n lines h ts
blank_last n [] h ts = ap (finish h) (append-nil ts)
blank_last n (line ∷ lines) h ts = by (line_of h line) (blank_last (n + 1) lines)
  where
    by : (r : Result (Header × Option Trade) Trouble) → ((h' : Header) (ts' : List Trade) → read_lines (n + 1) (lines ++ ([] ∷ [])) h' ts' ≡ read_lines (n + 1) lines h' ts') → then_rest n ts (read_lines (n + 1) (lines ++ ([] ∷ []))) r ≡ then_rest n ts (read_lines (n + 1) lines) r
    by (Err t) later = refl
    by (Ok x) later = later x.0 (ts ++ option_to_list x.1)

pub by_parts : (text : List ℕ) → read_lines 1 (parts_of text) nothing [] ≡ day_of text
by_parts text =
    elim (parts text) [
      | inl e ↦ ap (λ ls. read_lines 1 ls nothing []) e
      | inr e ↦ ap (λ ls. read_lines 1 ls nothing []) e ∙ blank_last 1 (lines_of text) nothing []
    ]

-- one line of a list of lines
module _ (n : ℕ) (lines : List (List ℕ)) (h : Header) (ts : List Trade) (line : List ℕ) (within : n < length lines) (line_is : line ≡ get_or lines n line) where
  abbrev Rest : Header → List Trade → Result Told Refusal
  Rest = read_lines (n + 1 + 1) (drop (n + 1) lines)

  line_read : read_lines (n + 1) (drop n lines) h ts ≡ then_rest (n + 1) ts Rest (line_of h line)
  line_read =
      at_drop_more (λ ls. read_lines (n + 1) ls h ts) lines n line within ∙ ap (λ l. then_rest (n + 1) ts Rest (line_of h l)) (sym line_is)

  pub line_refused : (t : Trouble) → Err t ≡ line_of h line → read_lines (n + 1) (drop n lines) h ts ≡ Err (Line (n + 1) t)
  line_refused t e = line_read ∙ ap (then_rest (n + 1) ts Rest) (sym e)

  line_taken : (h' : Header) (o : Option Trade) (ts' : List Trade) → Ok (h', o) ≡ line_of h line → ts' ≡ ts ++ option_to_list o → Rest h' ts' ≡ read_lines (n + 1) (drop n lines) h ts
  line_taken h' o ts' e with' = ap (Rest h') with' ∙ sym (line_read ∙ ap (then_rest (n + 1) ts Rest) (sym e))

pub next_line : {X : Type 0} (gone : List X) (x : X) (lines : List (List ℕ)) (h : Header) (ts : List Trade) (line : List ℕ) → length gone < length lines → line ≡ get_or lines (length gone) line → (h' : Header) (o : Option Trade) (ts' : List Trade) → Ok (h', o) ≡ line_of h line → ts' ≡ ts ++ option_to_list o → read_lines (length (gone ++ x ∷ []) + 1) (drop (length (gone ++ x ∷ [])) lines) h' ts' ≡ read_lines (length gone + 1) (drop (length gone) lines) h ts
next_line gone x lines h ts line within line_is h' o ts' e with' =
    subst (λ k. read_lines (k + 1) (drop k lines) h' ts' ≡ read_lines (length gone + 1) (drop (length gone) lines) h ts) (sym (length_push gone x)) (line_taken (length gone) lines h ts line within line_is h' o ts' e with')

pub no_more_lines : (n : ℕ) (lines : List (List ℕ)) (h : Header) (ts : List Trade) → n ≡ length lines → finish h ts ≡ read_lines (n + 1) (drop n lines) h ts
no_more_lines n lines h ts all = sym (at_drop_all (λ ls. read_lines (n + 1) ls h ts) lines n (omega (arith, all)))

-- the error of a call, behind the one that it was made into
pub err_behind : {X : Type 0} (r : Result X Trouble) (m : Result X Refusal) (P : Trouble → Refusal → Type 0) (e : Refusal) → MatchResult r (λ x. m ≡ Ok x) (λ t. IsErrAnd m (P t)) → m ≡ Err e → (t : Trouble) × (r ≡ Err t) × P t e
err_behind (Ok x) m P e h is = cc
err_behind (Err t) m P e h is = (t, refl, subst (λ z. IsErrAnd z (P t)) is h)

-- the numbered parts that a loop goes over
numbered : {F : Type 0} (g : Mut F (Bor ℕ × Unit {0}) Bool) {f : F} {cut : Split ℕ F} {made s : Enumerate (Split ℕ F)} → s ≡ made → enumerate_source made ≡ cut → enumerate_count made ≡ 0 → (text : List ℕ) → split_rest cut ≡ text → split_done cut ≡ false → split_callee cut ≡ f → ((x : ℕ) (b : Bool) (q : F) → CalledAt g f x b q → (q ≡ f) × (b ≡ eqb x 10)) → YieldsList {B = ℕ × List ℕ} (enumerate_steps (split_steps g)) (λ p. (p.0, p.1.now)) s (enumerate_from 0 (parts_of text))
numbered g same source from_0 text rest more test newline =
    YieldsList-at same (YieldsList-from_enumerate (YieldsList-at source (YieldsList-from_slice_split g (λ b. eqb b 10) text rest more test newline)) from_0)

module _ {F : Type 0} {g : Mut F (Bor ℕ × Unit {0}) Bool} {f : F} {cut : Split ℕ F} {made s : Enumerate (Split ℕ F)} (xs : List (ℕ × Bor (List ℕ))) (t : Enumerate (Split ℕ F)) where
  pub part_here : Yields (enumerate_steps (split_steps g)) s xs t → s ≡ made → enumerate_source made ≡ cut → enumerate_count made ≡ 0 → (text : List ℕ) → split_rest cut ≡ text → split_done cut ≡ false → split_callee cut ≡ f → ((x : ℕ) (b : Bool) (q : F) → CalledAt g f x b q → (q ≡ f) × (b ≡ eqb x 10)) → (r : Option (ℕ × Bor (List ℕ))) (u : Enumerate (Split ℕ F)) (x : ℕ × Bor (List ℕ)) → r ≡ Some x → enumerate_steps (split_steps g) t r u → (length xs < length (parts_of text)) × (x.0 ≡ length xs) × (x.1.now ≡ get_or (parts_of text) (length xs) x.1.now)
  part_here gone same source from_0 text rest more test newline r u x is step =
      let turn = YieldsList-turn (numbered g same source from_0 text rest more test newline) xs t gone r u x is step in
      let within : length xs < length (parts_of text) = omega (arith, turn.0, length-enumerate_from 0 (parts_of text)) in
      let at = turn.1 ∙ get_or-enumerate_from 0 (parts_of text) (length xs) (x.0, x.1.now) within in
      (within, omega (arith, ap (λ p. p.0) at), ap (λ p. p.1) at)

  pub parts_gone : Yields (enumerate_steps (split_steps g)) s xs t → s ≡ made → enumerate_source made ≡ cut → enumerate_count made ≡ 0 → (text : List ℕ) → split_rest cut ≡ text → split_done cut ≡ false → split_callee cut ≡ f → ((x : ℕ) (b : Bool) (q : F) → CalledAt g f x b q → (q ≡ f) × (b ≡ eqb x 10)) → (r : Option (ℕ × Bor (List ℕ))) (u : Enumerate (Split ℕ F)) → r ≡ None → enumerate_steps (split_steps g) t r u → length xs ≡ length (parts_of text)
  parts_gone gone same source from_0 text rest more test newline r u is step =
      (YieldsList-end (numbered g same source from_0 text rest more test newline) xs t gone r u is step).1 ∙ length-enumerate_from 0 (parts_of text)
