use Rattle.std.proofs.Common.{◌+◌, [], get_or}
use Rattle.uac_units.specs.SampleRows.{sample_at}
use Rattle.uac_units.proofs.SampleRowsLemmas.{RowsAreWritten}
use Rattle.uac_units.proofs.plain_rows.pass_rows.Given as goal

abbrev pub invariant-loop-channel : goal.invariant-loop-channel
invariant-loop-channel l = RowsAreWritten l.ticks (λ channel tick. sample_at tick (get_or l.inputs (l.from + channel) [])) l.channel l.initial.out l.out
