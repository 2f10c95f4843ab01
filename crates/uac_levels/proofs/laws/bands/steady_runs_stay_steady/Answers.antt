use Rattle.uac_levels.proofs.BandRunEarlierLemmas.{calls_look_back, looks_back, stay_steady}
use Rattle.uac_levels.proofs.laws.bands.steady_runs_stay_steady.Goals as goal

pub returns-clause-back : goal.returns-clause-back
returns-clause-back c = looks_back

pub returns-clause-all : goal.returns-clause-all
returns-clause-all c = stay_steady

pub returns-clause-calls : goal.returns-clause-calls
returns-clause-calls c = calls_look_back
