use Rattle.std.proofs.Common.{◌∙◌, ◌+◌, ◌*◌, ap, arith, sym, ℕ, ℤ, List, get_or}
use Rattle.uac_gain.specs.Gain.{scaled_sample}
use Rattle.uac_units.specs.declared.jobs.UnitKind.TheVariants.{Feature}
use Rattle.uac_units.specs.Rendering.{input, pins_sample}
use Rattle.uac_units.specs.SampleRows.{frame_at, sample_at}
use Rattle.uac_units.proofs.SampleRowsLemmas.{all_rows_written, has_ticks, input-frame_at, length-frame_at, next_has_ticks, no_rows_written, rows_written_more, stands}
use Rattle.uac_units.proofs.plain_rows.scale_rows.Goals as goal

pub loop-channel-init : goal.loop-channel-init
loop-channel-init c = no_rows_written c.args.ticks (λ channel tick. pins_sample Feature c.args.job.now (frame_at tick c.args.inputs.now) channel) c.args.out.now

pub scale-requires-clause-given : goal.scale-requires-clause-given
scale-requires-clause-given c =
    has_ticks c.args.ticks c.args.inputs.now c.loop-channel.channel c.index-inputs-channel.result c.requires.given
    (omega (arith, c.requires.fits.numbers.0, length-frame_at 0 c.args.inputs.now, c.requires.sized, c.loop-channel-test.true)) c.index-inputs-channel.is

pub scale-requires-clause-taken : goal.scale-requires-clause-taken
scale-requires-clause-taken c =
    next_has_ticks c.args.ticks (λ channel tick. pins_sample Feature c.args.job.now (frame_at tick c.args.inputs.now) channel) c.loop-channel.channel c.args.out.now c.loop-channel.out c.index-out-channel.result c.loop-channel.invariant
    c.requires.taken (omega arith)

pub loop-channel-preserved : goal.loop-channel-preserved
loop-channel-preserved c =
    let channel = c.loop-channel.channel in
    let inputs = c.args.inputs.now in
    let gains = c.as_slice-gains.result.now in
    let input_row =
    stands inputs channel c.index-inputs-channel.result
    (omega (arith, c.requires.fits.numbers.0, length-frame_at 0 c.args.inputs.now, c.requires.sized, c.loop-channel-test.true)) c.index-inputs-channel.is in
    rows_written_more c.args.ticks (λ channel tick. pins_sample Feature c.args.job.now (frame_at tick c.args.inputs.now) channel) channel c.args.out.now c.loop-channel.out c.index-out-channel.result c.scale.new.self (omega arith)
    (λ tick early.
    c.scale.ensures.samples tick early
    ∙ ap (λ (z : ℤ). scaled_sample (scaled_sample z (get_or gains (2 * channel) 0)) (get_or gains (2 * channel + 1) 0))
    (ap (sample_at tick) input_row ∙ sym (input-frame_at tick inputs channel))
    ∙ ap (λ (gs : List ℕ). scaled_sample (scaled_sample (input (frame_at tick inputs) channel) (get_or gs (2 * channel) 0)) (get_or gs (2 * channel + 1) 0))
    c.as_slice-gains.ensures.value)
    c.scale.ensures.length c.loop-channel.invariant

pub returns-clause-samples : goal.returns-clause-samples
returns-clause-samples c =
    all_rows_written c.args.ticks (λ channel tick. pins_sample Feature c.args.job.now (frame_at tick c.args.inputs.now) channel) c.loop-channel.channel c.args.out.now c.loop-channel.out c.loop-channel.invariant (omega arith)
