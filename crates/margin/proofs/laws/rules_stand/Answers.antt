use Rattle.margin.specs.Flats.{flat_keeps}
use Rattle.margin.specs.Kept.{flat_grows, share_lawful, share_grows, portion_rounded_up, additional_lawful}
use Rattle.margin.proofs.Uniform.{uniform_asks, nothing_asked}
use Rattle.margin.proofs.laws.rules_stand.Goals as goal

pub returns : goal.returns
returns c =
    record {
      flat = λ rule. (flat_keeps rule, flat_grows _);
      uniform = uniform_asks;
      nothing = nothing_asked;
      share = λ rate part r p. (share_lawful rate part r p, share_grows rate part);
      rounded = portion_rounded_up;
      additional = additional_lawful;
    }
