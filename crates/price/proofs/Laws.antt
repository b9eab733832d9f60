-- What stands of the answer to a day, and how it comes of the sums.
use Rattle.std.proofs.Common.{◌≡◌, ℕ, ◌*◌, ◌<◌, ◌≤◌, Bool, true, false, cond, ◌&&◌, leb, List, [], ◌∷◌, length, is_some, Some, None, Ok, Err, Option, Result, sym, refl, ap, ◌∙◌, subst, arith}
use Rattle.std.specs.Option.{option_map, ok_or}
use Rattle.std.proofs.lemmas.List.Sums.{sum_by-cons}
use Rattle.std.proofs.lemmas.Bool.{and_parts, leb-true, ne_eqb, true≢false}
use Rattle.terms.specs.declared.fault.Fault.{Fault}
use Rattle.terms.specs.declared.fault.Fault.TheVariants.{PriceInput, NoPrice}
use Rattle.price.specs.declared.day.Trade.{Trade}
use Rattle.price.specs.declared.day.Session.{Session}
use Rattle.price.specs.declared.day.Settlement.{Settlement}
use Rattle.price.specs.declared.day.Rule.TheVariants.{LastHalfHour, LastHour, WholeDay, Quotations, Committee}
use Rattle.price.specs.declared.sums.Sums.{Sums}
use Rattle.price.specs.Means.{nearest, mean}
use Rattle.price.specs.Letters.{letter_of}
use Rattle.price.specs.Prices.{session_fits, volume, value, mean_of, by_rule, or_else, first_of, all_rules, quoted, without_trades, is_second, is_price, is_count, trade_fits, first_unfit, refused_at, found, unless_refused, settlement, told}
use Rattle.price.specs.Rules.{First, Gives, NoneApplies, placeless, Stands}
use Rattle.price.specs.Tally.{SumsOf, by_sums, shown}
use Rattle.price.proofs.Between.{between}
use Rattle.price.proofs.Orders.{any_order, all_fit}
use Rattle.price.proofs.Rules.{none_some, gives, given_by, same_rule, Searched, searched}

ok_err : {T E Y : Type 0} {x : T} {y : E} → Ok x ≡ Err y → Y
ok_err e = cc

-- an answer came of the rules, and nothing was refused
settled_ok : (o : Option ℕ) (x : Option (ℕ × ℕ)) (y : ℕ × ℕ) → Ok y ≡ unless_refused o (found x) → x ≡ Some y
settled_ok (Some k) x y e = ok_err e
settled_ok None None y e = ok_err e
settled_ok None (Some z) y e = let same : y ≡ z = cc in ap Some (sym same)

settled_none : (o : Option ℕ) (x : Option (ℕ × ℕ)) (f : Fault) → o ≡ None → told (Err f) ≡ unless_refused o (found x) → x ≡ None
settled_none o None f t e = refl
settled_none o (Some y) f t e = ok_err (sym (e ∙ ap (λ z. unless_refused z (Ok y)) t))

module _ (s : Session) (ts : List Trade) where
  first : (x : Settlement) → told (Ok x) ≡ settlement s ts → First s ts x.rule x.price.value
  first x e =
      let p = x.price.value in
      let l = letter_of x.rule in
      let by = subst (Searched (by_rule s ts)) (settled_ok (refused_at s ts) (first_of (by_rule s ts) all_rules) (p, l) e) (searched (by_rule s ts)) in
      let same = same_rule by.rule x.rule by.letter in
      record {
        gives = subst (λ r. Gives s ts r p) same (gives s ts by.rule p by.price);
        first = λ r q less g. none_some (sym (by.before r (subst (λ n. letter_of r < n) (sym by.letter) less)) ∙ given_by s ts r q g);
      }

  none_applies : (f : Fault) → refused_at s ts ≡ None → told (Err f) ≡ settlement s ts → NoneApplies s ts
  none_applies f t e r p g =
      let none = subst (Searched (by_rule s ts)) (settled_none (refused_at s ts) (first_of (by_rule s ts) all_rules) f t e) (searched (by_rule s ts)) in
      none_some (sym (none r) ∙ given_by s ts r p g)

  pub stands : (r : Result Settlement Fault) → told r ≡ settlement s ts → Stands s ts r
  stands (Ok x) e =
      let f = first x e in
      record {
        first = f;
        absent = λ t. ((λ no. absurd (true≢false no)), (λ none. absurd (none x.rule x.price.value f.gives)));
        any_order = λ us h. any_order s ts us h ∙ ap placeless (sym e);
        between = between s ts x.rule x.price.value f.gives;
      }
  stands (Err f) e =
      record {
        first = tt;
        absent = λ t. ((λ no. none_applies f t e), (λ none. refl));
        any_order = λ us h. any_order s ts us h ∙ ap placeless (sym e);
        between = tt;
      }

-- a trade that fits has contracts, so with trades there is a mean
counted : (last : ℕ) (t : Trade) → trade_fits last t ≡ true → 1 ≤ t.count
counted last t fits =
    let to_last = and_parts (is_second t.second && is_price t.price && is_count t.count) (leb t.second last) fits in
    let to_count = and_parts (is_second t.second && is_price t.price) (is_count t.count) to_last.0 in
    by (leb 1 t.count) refl to_count.1
  where
    by : (b : Bool) → leb 1 t.count ≡ b → is_some (cond (b && leb t.count 1000) (Some t.count) None) ≡ true → 1 ≤ t.count
    by true e some = leb-true 1 t.count e
    by false e some = absurd (true≢false (sym some))

mean_of_some : (last : ℕ) (t : Trade) (ts : List Trade) → trade_fits last t ≡ true → (p : ℕ) × (mean_of (t ∷ ts) ≡ Some p)
mean_of_some last t ts fits =
    let some = counted last t fits in
    let n = volume (t ∷ ts) in (
      nearest (value (t ∷ ts)) n,
      ap (λ b. cond b None (Some (nearest (value (t ∷ ts)) n))) (ne_eqb n 0 (omega (arith, sum_by-cons (λ t. t.count) t ts))),
    )

-- after the means of trades the rules need not ask whether there are any
without_asking : (s : Session) (ts : List Trade) → first_unfit s.last 1 ts ≡ None → (next : Option (ℕ × ℕ)) → or_else (mean_of ts) WholeDay (or_else (quoted s) Quotations next) ≡ or_else (mean_of ts) WholeDay (or_else (without_trades ts (quoted s)) Quotations next)
without_asking s [] fit next = refl
without_asking s (t ∷ ts) fit next =
    let there = (mean_of_some s.last t ts (all_fit s.last 1 (t ∷ ts) fit).0).1 in
    ap (λ o. or_else o WholeDay (or_else (quoted s) Quotations next)) there ∙ sym (ap (λ o. or_else o WholeDay (or_else None Quotations next)) there)

pub by_the_sums : (s : Session) (ts : List Trade) (sums : Sums) → first_unfit s.last 1 ts ≡ None → SumsOf s.last ts sums → first_of (by_sums s sums) all_rules ≡ first_of (by_rule s ts) all_rules
by_the_sums s ts sums fit of =
    let day = of.2 in
    let half : by_sums s sums LastHalfHour ≡ by_rule s ts LastHalfHour = λ i. cond (leb (day.0 i) (5 * of.0.0 i)) (mean (of.0.1 i) (of.0.0 i)) None in
    let hour : by_sums s sums LastHour ≡ by_rule s ts LastHour = λ i. cond (leb (day.0 i) (5 * of.1.0 i)) (mean (of.1.1 i) (of.1.0 i)) None in
    let whole : by_sums s sums WholeDay ≡ by_rule s ts WholeDay = λ i. mean (day.1 i) (day.0 i) in
    let rest = or_else s.committee Committee None in
    (λ i. or_else (half i) LastHalfHour (or_else (hour i) LastHour (or_else (whole i) WholeDay (or_else (quoted s) Quotations rest))))
    ∙ ap (λ o. or_else (by_rule s ts LastHalfHour) LastHalfHour (or_else (by_rule s ts LastHour) LastHour o)) (without_asking s ts fit rest)

-- the three ways to an answer
module _ (s : Session) (ts : List Trade) where
  pub refused_outside : (session_fits s && leb (length ts) 4096) ≡ false → told (Err (PriceInput 0)) ≡ settlement s ts
  refused_outside e =
      ap (λ b. unless_refused (cond b (first_unfit s.last 1 ts) (Some 0)) (found (first_of (by_rule s ts) all_rules))) (sym e)

  module _ (fits : (session_fits s && leb (length ts) 4096) ≡ true) where
    within : (o : Option ℕ) → first_unfit s.last 1 ts ≡ o → unless_refused o (found (first_of (by_rule s ts) all_rules)) ≡ settlement s ts
    within o e = sym (λ i. unless_refused (cond (fits i) (e i) (Some 0)) (found (first_of (by_rule s ts) all_rules)))

    pub refused_trade : (f : Fault) → option_map PriceInput (first_unfit s.last 1 ts) ≡ Some f → told (Err f) ≡ settlement s ts
    refused_trade f e = by (first_unfit s.last 1 ts) refl e
      where
        by : (o : Option ℕ) → first_unfit s.last 1 ts ≡ o → option_map PriceInput o ≡ Some f → told (Err f) ≡ settlement s ts
        by None t e = none_some e
        by (Some k) t e = let same : PriceInput k ≡ f = cc in ap (λ g. told (Err g)) (sym same) ∙ within (Some k) t

    pub priced : (sums : Sums) → first_unfit s.last 1 ts ≡ None → SumsOf s.last ts sums → (o : Option Settlement) → option_map shown o ≡ first_of (by_sums s sums) all_rules → told (ok_or o NoPrice) ≡ settlement s ts
    priced sums fit of o e = shows o ∙ ap found (e ∙ by_the_sums s ts sums fit of) ∙ within None fit
      where
        shows : (o : Option Settlement) → told (ok_or o NoPrice) ≡ found (option_map shown o)
        shows None = refl
        shows (Some x) = refl
