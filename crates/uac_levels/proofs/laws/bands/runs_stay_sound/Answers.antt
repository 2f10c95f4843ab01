use Rattle.uac_levels.proofs.BandTransfersRunLemmas.{calls_keep_sound, microframes_keep_sound}
use Rattle.uac_levels.proofs.BandTransfersStartLemmas.{runs_start_sound}
use Rattle.uac_levels.proofs.BandTransfersLemmas.{transfers_keep_sound}
use Rattle.uac_levels.proofs.laws.bands.runs_stay_sound.Goals as goal

pub returns-clause-microframes : goal.returns-clause-microframes
returns-clause-microframes c = microframes_keep_sound

pub returns-clause-calls : goal.returns-clause-calls
returns-clause-calls c = calls_keep_sound

pub returns-clause-transfers : goal.returns-clause-transfers
returns-clause-transfers c = transfers_keep_sound

pub returns-clause-start : goal.returns-clause-start
returns-clause-start c = runs_start_sound
