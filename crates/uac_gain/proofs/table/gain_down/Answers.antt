use Rattle.uac_gain.proofs.GainTableLemmas.{down-at}
use Rattle.uac_gain.proofs.table.gain_down.Goals as goal

pub returns : goal.returns
returns c = down-at c.args.decibels c.requires
