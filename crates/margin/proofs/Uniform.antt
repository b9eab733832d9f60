-- A flat rule with one tariff for all series.
use Rattle.std.proofs.Common.{◌≡◌, ℕ, ◌-◌, ◌<◌, Bool, true, false, cond, get_or, replicate, refl, sym, ap, ◌∙◌, arith}
use Rattle.std.proofs.Math.ListN.{get_or-map}
use Rattle.std.proofs.lemmas.List.{get_or-replicate}
use Rattle.std.proofs.lemmas.Grind.{common_steps}
use Rattle.margin.specs.declared.flat.Flat.{Flat}
use Rattle.margin.specs.Question.{askable}
use Rattle.margin.specs.Laws.{Alike, AsksNothing}
use Rattle.margin.specs.Rules.{flat, flat_rule}
use Rattle.margin.specs.Kept.{ranges_of}
use Rattle.margin.specs.Flats.{nought, table, tariff_of, flat_asks}

-- what stands in the table is what the series asks
each : (rule : Flat) (initial minimum series : ℕ) → table rule ≡ replicate 24 (initial, minimum) → series - 1 < 24 → ◌≡◌ {A = ℕ × ℕ} ((tariff_of rule series).initial, (tariff_of rule series).minimum) (initial, minimum)
each rule initial minimum series e k =
    sym (get_or-map (λ t. (t.initial, t.minimum)) rule.tariffs (series - 1) nought)
    ∙ ap (λ ms. get_or ms (series - 1) (0, 0)) e
    ∙ get_or-replicate 24 (series - 1) (initial, minimum) (0, 0) k

cond_same : {X : Type 0} (b : Bool) (x y z : X) → (b ≡ true → x ≡ y) → cond b x z ≡ cond b y z
cond_same true x y z h = h refl
cond_same false x y z h = refl

pub uniform_asks : (rule : Flat) (initial minimum : ℕ) → table rule ≡ replicate 24 (initial, minimum) → Alike (flat_asks rule) (flat_rule (λ _. (initial, minimum)))
uniform_asks rule initial minimum e series size price count =
    cond_same (askable series size price count) _ _ _
    (λ t.
    let q = ranges_of series size price count t in
    ap (λ m. flat m.0 m.1 count) (each rule initial minimum series e (omega arith)))

pub nothing_asked : (rule : Flat) → table rule ≡ replicate 24 (0, 0) → AsksNothing (flat_asks rule)
nothing_asked rule e series size price count = uniform_asks rule 0 0 e series size price count ∙ grind (arith, common_steps)
