use Rattle.uac_rate.proofs.LevelsLemmas.{filled, primed_robust, primed_tight}
use Rattle.uac_rate.proofs.laws.streams_are_primed_in_their_bands.Goals as goal

pub returns : goal.returns
returns c = record {
  target = λ values service period least before after room intervals. filled values service least before after room intervals.serves;
  robust = primed_robust;
  tight = primed_tight;
}
