use Rattle.uac_levels.proofs.BandRunLevelLemmas.{tell_near}
use Rattle.uac_levels.proofs.laws.bands.steady_microframes_tell_near.Goals as goal

pub returns : goal.returns
returns c = record { near = tell_near }
