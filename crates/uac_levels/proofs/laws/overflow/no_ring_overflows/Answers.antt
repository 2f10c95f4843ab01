use Rattle.uac_levels.proofs.RecordingLemmas.{microframes_stay_recorded, rings_hold_an_interval}
use Rattle.uac_levels.proofs.RecordingTransferLemmas.{calls_stay_recorded, runs_start_recorded, transfers_stay_recorded}
use Rattle.uac_levels.proofs.laws.overflow.no_ring_overflows.Goals as goal

pub returns-clause-start : goal.returns-clause-start
returns-clause-start c = runs_start_recorded

pub returns-clause-microframes : goal.returns-clause-microframes
returns-clause-microframes c = microframes_stay_recorded

pub returns-clause-calls : goal.returns-clause-calls
returns-clause-calls c = calls_stay_recorded

pub returns-clause-transfers : goal.returns-clause-transfers
returns-clause-transfers c = transfers_stay_recorded

pub returns-clause-interval : goal.returns-clause-interval
returns-clause-interval c = rings_hold_an_interval
