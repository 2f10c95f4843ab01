use Rattle.uac_rate.proofs.LevelsLemmas.{robust_near, tight_within}
use Rattle.std.proofs.Common.{arith}
use Rattle.uac_rate.proofs.laws.levels_stay_near.Goals as goal

pub returns : goal.returns
returns c = record {
  robust = λ values service period p intervals robust. let near = robust_near values 65 service period p intervals.reports robust in (omega arith, omega arith);
  tight = λ values service period anchor p room facts intervals tight. tight_within values 65 period anchor p facts room.slight intervals.reports tight;
}
