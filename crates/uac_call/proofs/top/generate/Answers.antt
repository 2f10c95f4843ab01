use Rattle.uac_call.proofs.CallLemmas.{generated_run}
use Rattle.uac_call.proofs.CompletenessLemmas.{never_failed}
use Rattle.uac_call.proofs.top.generate.Goals as goal

pub returns-clause-generated : goal.returns-clause-generated
returns-clause-generated g c left reads = generated_run c.args.number _ _ left reads _ _ _ _ _ _ _ c.new-script.ensures c.run_script.ensures.run

pub returns-clause-faultless : goal.returns-clause-faultless
returns-clause-faultless g c = λ unwritten. (c.run_script.ensures.faultless (λ e. never_failed (c.run_script.ensures.read_fault e)) unwritten).1
