use Rattle.uac_levels.proofs.BandRunLemmas.{keep_bands}
use Rattle.uac_levels.proofs.laws.bands.steady_microframes_keep_bands.Goals as goal

pub returns : goal.returns
returns c = record { stays = keep_bands }
