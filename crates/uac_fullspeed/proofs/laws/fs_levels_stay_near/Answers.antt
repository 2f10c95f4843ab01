use Rattle.std.proofs.Common.{arith}
use Rattle.uac_fullspeed.proofs.BandsLemmas.{fs_near, fs_tight_near, fs_moment, fs_primed}
use Rattle.uac_fullspeed.proofs.laws.fs_levels_stay_near.Goals as goal

pub returns : goal.returns
returns c = record {
  robust = λ values p robust. let near = fs_near values p robust in (omega arith, omega arith);
  tight = fs_tight_near;
  moments = fs_moment;
  primed = fs_primed;
}
