use Rattle.uac_call.proofs.GeneratedCallLemmas.{generated_scripts_run_whole}
use Rattle.uac_call.proofs.laws.generated_scripts_run_whole.Goals as goal

pub returns : goal.returns
returns c = generated_scripts_run_whole
