use Rattle.std.proofs.Common.{sym}
use Rattle.uac_units.proofs.MeterRowsLemmas.{none_clipped}
use Rattle.uac_units.proofs.meter_rows.clipped_among.Goals as goal

pub returns-then-are_silent : goal.returns-then-are_silent
returns-then-are_silent c = sym (none_clipped c.args.samples.now (c.are_silent.ensures c.if-are_silent.true))
