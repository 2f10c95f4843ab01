use Rattle.uac_settle.proofs.SettlingStretchLemmas.{stretch_settles}
use Rattle.uac_settle.proofs.laws.stretches_settle.Goals as goal

pub returns : goal.returns
returns c = stretch_settles
