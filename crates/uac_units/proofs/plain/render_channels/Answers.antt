use Rattle.std.proofs.Common.{◌∙◌, ap, arith, w32, ◌*◌, ◌+◌, get_or, ℕ, List}
use Rattle.std.proofs.lemmas.Int.{to_z-of_z}
use Rattle.uac_gain.specs.Gain.{scaled_sample}
use Rattle.uac_units.specs.declared.jobs.UnitKind.TheVariants.{Feature}
use Rattle.uac_units.specs.Rendering.{input, pins_sample, job_samples}
use Rattle.uac_units.proofs.RenderingWriteLemmas.{all_written, one_more}
use Rattle.uac_units.proofs.plain.render_channels.Goals as goal

pub loop-channel-preserved : goal.loop-channel-preserved
loop-channel-preserved c =
    let channel = c.loop-channel.channel in
    let gains = c.as_slice-gains.result.now in
    one_more (pins_sample Feature c.args.job.now c.args.inputs.now) c.args.job.now.outputs channel c.loop-channel.out _ (omega arith)
    c.loop-channel.invariant
    (to_z-of_z w32 c.scaled_by.result (record { sfits = c.scaled_by.type_inv }) ∙ c.scaled_by.ensures
    ∙ ap (λ z. scaled_sample z (get_or gains (2 * channel + 1) 0))
    (to_z-of_z w32 c.scaled_input-own.result (record { sfits = c.scaled_input-own.type_inv }) ∙ c.scaled_input-own.ensures)
    ∙ ap (λ (gs : List ℕ). scaled_sample (scaled_sample (input c.args.inputs.now channel) (get_or gs (2 * channel) 0)) (get_or gs (2 * channel + 1) 0)) c.as_slice-gains.ensures.value)

pub returns : goal.returns
unfolding job_samples
returns c =
    all_written (pins_sample Feature c.args.job.now c.args.inputs.now) c.args.job.now.outputs c.loop-channel.channel c.loop-channel.out (omega arith)
    c.loop-channel.invariant
