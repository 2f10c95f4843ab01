use Rattle.uac_promises.proofs.ScriptsLemmas.{steady_scripts_keep_bands}
use Rattle.uac_promises.proofs.laws.steady.steady_scripts_keep_bands.Goals as goal

pub returns : goal.returns
returns c = steady_scripts_keep_bands
