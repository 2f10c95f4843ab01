use Rattle.uac_running.proofs.EventTicksLemmas.{renders_many}
use Rattle.uac_running.proofs.laws.renders_rise_by_ticks.Goals as goal

pub returns : goal.returns
returns c = renders_many
