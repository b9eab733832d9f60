-- A flat rule by its table: what it asks, and one series set anew.
use Rattle.std.specs.Prelude.{ℕ, ◌-◌, List, map, replicate, slice_index_or, slice_set}
use Rattle.std.proofs.Common.{zero-le}
use Rattle.margin.specs.declared.tariff.Tariff.{Tariff}
use Rattle.margin.specs.declared.flat.Flat.{Flat}
use Rattle.margin.specs.Question.{Answers}
use Rattle.margin.specs.Laws.{Lawful}
use Rattle.margin.specs.Rules.{flat_rule}
use Rattle.margin.specs.Kept.{flat_lawful}

abbrev pub nought : Tariff
nought = record { initial = 0; minimum = 0; bounded = zero-le; ordered = zero-le }

-- the initial and the minimum margin a contract, series by series
abbrev pub table : Flat → List (ℕ × ℕ)
table f = map (λ t. (t.initial, t.minimum)) f.tariffs

-- series are counted from 1
abbrev pub tariff_of : Flat → ℕ → Tariff
tariff_of f series = slice_index_or f.tariffs (series - 1) nought

abbrev pub flat_asks : Flat → Answers
flat_asks f = flat_rule (λ series. ((tariff_of f series).initial, (tariff_of f series).minimum))

abbrev pub with_tariff : Flat → ℕ → Tariff → Flat
with_tariff f series t = record { tariffs = slice_set f.tariffs (series - 1) t }

-- one tariff for every series
abbrev pub alike : Tariff → Flat
alike t = record { tariffs = replicate 24 t }

pub flat_keeps : (f : Flat) → Lawful (flat_asks f)
flat_keeps f = flat_lawful _ (λ series. (tariff_of f series).bounded) (λ series. (tariff_of f series).ordered)
