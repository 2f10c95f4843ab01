use Rattle.std.proofs.Common.{sym}
use Rattle.uac_units.proofs.MeterRowsLemmas.{nothing_added}
use Rattle.uac_units.proofs.meter_rows.sum_among.Goals as goal

pub returns-then-are_silent : goal.returns-then-are_silent
returns-then-are_silent c = sym (nothing_added c.args.samples.now (c.are_silent.ensures c.if-are_silent.true))
