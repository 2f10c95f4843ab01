-- Every steady script keeps its promises, by what single microframes, transfers and calls keep.
use Rattle.uac_levels.proofs.RecordingLemmas.{microframes_stay_recorded}
use Rattle.uac_levels.proofs.RecordingTransferLemmas.{calls_stay_recorded, runs_start_recorded, transfers_stay_recorded}
use Rattle.uac_levels.proofs.HomingLemmas.{calls_stay_trailed, microframes_stay_trailed, runs_start_trailed}
use Rattle.uac_levels.proofs.HomingTransferLemmas.{transfers_stay_trailed}
use Rattle.uac_promises.specs.Promises.{SteadyScriptsKeepPromises}
use Rattle.uac_promises.proofs.PromisesRunLemmas.{LawsOfSteps}
use Rattle.uac_promises.proofs.PromisesRowLemmas.{steady_scripts_keep_promises}

laws_of_steps : LawsOfSteps
laws_of_steps = record {
  start_recorded = runs_start_recorded;
  microframes_recorded = microframes_stay_recorded;
  calls_recorded = calls_stay_recorded;
  transfers_recorded = transfers_stay_recorded;
  start_trailed = runs_start_trailed;
  microframes_trailed = microframes_stay_trailed;
  calls_trailed = calls_stay_trailed;
  transfers_trailed = transfers_stay_trailed;
}

pub all_scripts_keep_promises : SteadyScriptsKeepPromises
all_scripts_keep_promises = steady_scripts_keep_promises laws_of_steps
