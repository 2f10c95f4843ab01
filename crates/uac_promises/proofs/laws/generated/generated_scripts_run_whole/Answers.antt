use Rattle.uac_promises.proofs.GeneratedLemmas.{generated_scripts_are_done, generated_scripts_are_scripts, generated_scripts_are_steady}
use Rattle.uac_promises.proofs.laws.generated.generated_scripts_run_whole.Goals as goal

pub returns-clause-script : goal.returns-clause-script
returns-clause-script c = generated_scripts_are_scripts

pub returns-clause-done : goal.returns-clause-done
returns-clause-done c = generated_scripts_are_done

pub returns-clause-steady : goal.returns-clause-steady
returns-clause-steady c = generated_scripts_are_steady
