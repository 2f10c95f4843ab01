use Rattle.uac_levels.proofs.HomingLemmas.{calls_stay_trailed, microframes_stay_trailed, runs_start_trailed}
use Rattle.uac_levels.proofs.HomingTransferLemmas.{transfers_stay_trailed}
use Rattle.uac_levels.proofs.laws.homing.streams_come_home.Goals as goal

pub returns-clause-start : goal.returns-clause-start
returns-clause-start c = runs_start_trailed

pub returns-clause-microframes : goal.returns-clause-microframes
returns-clause-microframes c = microframes_stay_trailed

pub returns-clause-calls : goal.returns-clause-calls
returns-clause-calls c = calls_stay_trailed

pub returns-clause-transfers : goal.returns-clause-transfers
returns-clause-transfers c = transfers_stay_trailed
