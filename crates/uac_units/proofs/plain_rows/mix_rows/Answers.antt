use Rattle.std.proofs.Common.{arith}
use Rattle.uac_units.specs.declared.jobs.UnitKind.TheVariants.{Mixer}
use Rattle.uac_units.specs.Rendering.{pins_sample}
use Rattle.uac_units.specs.SampleRows.{frame_at}
use Rattle.uac_units.proofs.SampleRowsLemmas.{all_rows_written, next_has_ticks, no_rows_written, rows_written_more}
use Rattle.uac_units.proofs.SilentRowsLemmas.{mixer-of_silence}
use Rattle.uac_units.proofs.plain_rows.mix_rows.Goals as goal

pub returns-then-are_silent-clause-samples : goal.returns-then-are_silent-clause-samples
returns-then-are_silent-clause-samples c = λ channel below.
    mixer-of_silence c.args.job.now c.args.ticks c.args.inputs.now c.hush_rows.new.rows c.args.out.now (c.are_silent.ensures c.if-are_silent.true)
    c.hush_rows.ensures.frames channel

pub loop-channel-init : goal.loop-channel-init
loop-channel-init c = no_rows_written c.args.ticks (λ channel tick. pins_sample Mixer c.args.job.now (frame_at tick c.args.inputs.now) channel) c.args.out.now

pub mix_row-requires-clause-taken : goal.mix_row-requires-clause-taken
mix_row-requires-clause-taken c =
    next_has_ticks c.args.ticks (λ channel tick. pins_sample Mixer c.args.job.now (frame_at tick c.args.inputs.now) channel) c.loop-channel.channel c.args.out.now c.loop-channel.out c.index-out-channel.result c.loop-channel.invariant
    c.requires.taken (omega arith)

pub mix_row-requires-clause-inside : goal.mix_row-requires-clause-inside
mix_row-requires-clause-inside c = omega (arith, c.requires.sized, c.loop-channel-test.true)

pub loop-channel-preserved : goal.loop-channel-preserved
loop-channel-preserved c =
    rows_written_more c.args.ticks (λ channel tick. pins_sample Mixer c.args.job.now (frame_at tick c.args.inputs.now) channel) c.loop-channel.channel c.args.out.now c.loop-channel.out c.index-out-channel.result c.mix_row.new.row (omega arith)
    c.mix_row.ensures.samples c.mix_row.ensures.length c.loop-channel.invariant

pub returns-clause-samples : goal.returns-clause-samples
returns-clause-samples c =
    all_rows_written c.args.ticks (λ channel tick. pins_sample Mixer c.args.job.now (frame_at tick c.args.inputs.now) channel) c.loop-channel.channel c.args.out.now c.loop-channel.out c.loop-channel.invariant (omega arith)
