-- What each rule gives by the definition is what it gives by the relation, and the first that gives one is found.
use Rattle.std.proofs.Common.{◌≡◌, ℕ, ◌+◌, ◌*◌, ◌<◌, ◌≤◌, Bool, true, false, cond, ◌&&◌, eqb, leb, List, [], ◌∷◌, Some, None, Option, sym, refl, ap, ◌∙◌, subst, inl, inr, arith}
use Rattle.std.proofs.lemmas.Bool.{leb-true, le-leb, eqb-false, ne_eqb, and_parts, and_from, cases_lt}
use Rattle.price.specs.declared.day.Trade.{Trade}
use Rattle.price.specs.declared.day.Band.{Band}
use Rattle.price.specs.declared.day.Session.{Session}
use Rattle.price.specs.declared.day.Rule.{Rule}
use Rattle.price.specs.declared.day.Rule.TheVariants.{LastHalfHour, LastHour, WholeDay, Quotations, Committee}
use Rattle.price.specs.Means.{nearest, mean, Nearest}
use Rattle.price.specs.Letters.{letter_of}
use Rattle.price.specs.Prices.{volume, value, mean_of, recent, fifth, banded, mean_of_two, quoted, without_trades, by_rule, or_else, first_of, all_rules}
use Rattle.price.specs.Rules.{MeanOf, Enough, Quoted, Gives}
use Rattle.price.proofs.Means.{mean_nearest, nearest_only}

pub none_some : {X Y : Type 0} {x : X} → None ≡ Some x → Y
none_some e = cc

-- a price under a test
some_if : (b : Bool) (o : Option ℕ) (p : ℕ) → cond b o None ≡ Some p → (b ≡ true) × (o ≡ Some p)
some_if true o p e = (refl, e)
some_if false o p e = none_some e

-- a mean that is there is the nearest rial, and the other way round
mean_there : (sum weight p : ℕ) → mean sum weight ≡ Some p → Nearest sum weight p
mean_there sum weight p e = by (eqb weight 0) refl e
  where
    by : (b : Bool) → eqb weight 0 ≡ b → cond b None (Some (nearest sum weight)) ≡ Some p → Nearest sum weight p
    by true t e = none_some e
    by false t e =
        let some : 0 < weight = omega (arith, eqb-false weight 0 t) in
        let is : nearest sum weight ≡ p = cc in
        subst (Nearest sum weight) is (mean_nearest sum weight some)

mean_given : (sum weight p : ℕ) → Nearest sum weight p → mean sum weight ≡ Some p
mean_given sum weight p n =
    let traded = n.traded in
    ap (λ b. cond b None (Some (nearest sum weight))) (ne_eqb weight 0 (omega arith)) ∙ ap Some (nearest_only sum weight p n)

-- a window that weighs enough
fifth_there : (some ts : List Trade) (p : ℕ) → fifth some ts ≡ Some p → Enough some ts × MeanOf some p
fifth_there some ts p e =
    let parts = some_if (leb (volume ts) (5 * volume some)) (mean_of some) p e in
    (leb-true (volume ts) (5 * volume some) parts.0, mean_there (value some) (volume some) p parts.1)

fifth_given : (some ts : List Trade) (p : ℕ) → Enough some ts × MeanOf some p → fifth some ts ≡ Some p
fifth_given some ts p g =
    ap (λ b. cond b (mean_of some) None) (le-leb (volume ts) (5 * volume some) g.0) ∙ mean_given (value some) (volume some) p g.1

-- a quotation in the band
abbrev InBand : Band → Option ℕ → ℕ → Type 0
InBand band o p = (o ≡ Some p) × ((band.low ≤ p) × (p ≤ band.high))

banded_there : (band : Band) (o : Option ℕ) (p : ℕ) → banded band o ≡ Some p → InBand band o p
banded_there band None p e = none_some e
banded_there band (Some q) p e =
    let parts = some_if (leb band.low q && leb q band.high) (Some q) p e in
    let is : q ≡ p = let h = parts.1 in cc in
    let tests = and_parts (leb band.low q) (leb q band.high) parts.0 in
    let low = leb-true band.low q tests.0 in
    let high = leb-true q band.high tests.1 in
    (ap Some is, (omega (arith, is), omega (arith, is)))

banded_given : (band : Band) (o : Option ℕ) (p : ℕ) → InBand band o p → banded band o ≡ Some p
banded_given band o p i =
    ap (banded band) i.0 ∙ ap (λ b. cond b (Some p) None) (and_from (leb band.low p) (leb p band.high) (le-leb band.low p i.1.0) (le-leb p band.high i.1.1))

quoted_there : (s : Session) (p : ℕ) → quoted s ≡ Some p → Quoted s p
quoted_there s p e = by (banded s.band s.bid) (banded s.band s.ask) refl refl e
  where
    by : (b a : Option ℕ) → banded s.band s.bid ≡ b → banded s.band s.ask ≡ a → mean_of_two b a ≡ Some p → Quoted s p
    by None a eb ea e = none_some e
    by (Some bid) None eb ea e = none_some e
    by (Some bid) (Some ask) eb ea e =
        let b = banded_there s.band s.bid bid eb in
        let a = banded_there s.band s.ask ask ea in
        record { bid = bid; ask = ask; bid_is = b.0; ask_is = a.0; bid_in = b.1; ask_in = a.1; between = mean_there (bid + ask) 2 p e }

quoted_given : (s : Session) (p : ℕ) → Quoted s p → quoted s ≡ Some p
quoted_given s p q =
    (λ i. mean_of_two (banded_given s.band s.bid q.bid (q.bid_is, q.bid_in) i) (banded_given s.band s.ask q.ask (q.ask_is, q.ask_in) i))
    ∙ mean_given (q.bid + q.ask) 2 p q.between

module _ (s : Session) where
  pub gives : (ts : List Trade) (r : Rule) (p : ℕ) → by_rule s ts r ≡ Some p → Gives s ts r p
  gives ts LastHalfHour p e = fifth_there (recent s.last 1800 ts) ts p e
  gives ts LastHour p e = fifth_there (recent s.last 3600 ts) ts p e
  gives ts WholeDay p e = mean_there (value ts) (volume ts) p e
  gives [] Quotations p e = (refl, quoted_there s p e)
  gives (t ∷ ts) Quotations p e = none_some e
  gives ts Committee p e = e

  pub given_by : (ts : List Trade) (r : Rule) (p : ℕ) → Gives s ts r p → by_rule s ts r ≡ Some p
  given_by ts LastHalfHour p g = fifth_given (recent s.last 1800 ts) ts p g
  given_by ts LastHour p g = fifth_given (recent s.last 3600 ts) ts p g
  given_by ts WholeDay p g = mean_given (value ts) (volume ts) p g
  given_by ts Quotations p g = ap (λ l. without_trades l (quoted s)) g.0 ∙ quoted_given s p g.1
  given_by ts Committee p g = g

-- a rule by its letter
abbrev rule_of : ℕ → Rule
rule_of n = cond (eqb n 97) LastHalfHour (cond (eqb n 98) LastHour (cond (eqb n 99) WholeDay (cond (eqb n 100) Quotations Committee)))

rule_letter : (r : Rule) → rule_of (letter_of r) ≡ r
rule_letter LastHalfHour = refl
rule_letter LastHour = refl
rule_letter WholeDay = refl
rule_letter Quotations = refl
rule_letter Committee = refl

pub same_rule : (q r : Rule) → letter_of q ≡ letter_of r → q ≡ r
same_rule q r e = sym (rule_letter q) ∙ ap rule_of e ∙ rule_letter r

letters : (r : Rule) → (97 ≤ letter_of r) × (letter_of r < 102)
letters LastHalfHour = (omega arith, omega arith)
letters LastHour = (omega arith, omega arith)
letters WholeDay = (omega arith, omega arith)
letters Quotations = (omega arith, omega arith)
letters Committee = (omega arith, omega arith)

-- rules whose letters follow one another from k to e
abbrev Following : ℕ → List Rule → Type 0
Following k [] = 102 ≤ k
Following k (r ∷ rs) = (letter_of r ≡ k) × Following (k + 1) rs

following : Following 97 all_rules
following = (refl, (refl, (refl, (refl, (refl, omega arith)))))

module _ (f : Rule → Option ℕ) where
  -- no rule of a letter before k gives a price
  abbrev pub NoneBelow : ℕ → Type 0
  NoneBelow k = (q : Rule) → letter_of q < k → f q ≡ None

  below_more : (r : Rule) → NoneBelow (letter_of r) → f r ≡ None → NoneBelow (letter_of r + 1)
  below_more r below here q l =
      elim (cases_lt (letter_of q) (letter_of r)) [
        | inl less ↦ below q less
        | inr more ↦ (let same : letter_of q ≡ letter_of r = omega arith in ap f (same_rule q r same) ∙ here)
      ]

  pub record FirstBy (p l : ℕ) : Type 0 where
    pub rule : Rule
    pub letter : letter_of rule ≡ l
    pub price : f rule ≡ Some p
    pub before : NoneBelow (letter_of rule)

  -- what is true of a search that gave this
  abbrev pub Searched : Option (ℕ × ℕ) → Type 0
  Searched (Some x) = FirstBy x.0 x.1
  Searched None = (q : Rule) → f q ≡ None

  search_from : (k : ℕ) (rs : List Rule) → Following k rs → NoneBelow k → Searched (first_of f rs)
  search_from k [] follow below = λ q. below q (omega (arith, letters q))
  search_from k (r ∷ rs) follow below = by (f r) refl (search_from (k + 1) rs follow.1)
    where
      here : NoneBelow (letter_of r)
      here = subst NoneBelow (sym follow.0) below

      by : (o : Option ℕ) → f r ≡ o → (NoneBelow (k + 1) → Searched (first_of f rs)) → Searched (or_else o r (first_of f rs))
      by (Some p) t later = record { rule = r; letter = refl; price = t; before = here }
      by None t later = later (subst (λ n. NoneBelow (n + 1)) follow.0 (below_more r here t))

  pub searched : Searched (first_of f all_rules)
  searched = search_from 97 all_rules following (λ q l. absurd (omega (arith, letters q)))
