use Rattle.uac_gain.proofs.GainTableLemmas.{up-at}
use Rattle.uac_gain.proofs.table.gain_up.Goals as goal

pub returns : goal.returns
returns c = up-at c.args.decibels c.requires
