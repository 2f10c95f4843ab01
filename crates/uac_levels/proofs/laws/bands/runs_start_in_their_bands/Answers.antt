use Rattle.uac_levels.proofs.BeginningsLemmas.{calls_keep_bands, runs_start_in_band}
use Rattle.uac_levels.proofs.laws.bands.runs_start_in_their_bands.Goals as goal

pub returns-clause-start : goal.returns-clause-start
returns-clause-start c = runs_start_in_band

pub returns-clause-calls : goal.returns-clause-calls
returns-clause-calls c = calls_keep_bands
