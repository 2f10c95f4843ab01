use Rattle.std.proofs.Common.{◌∙◌, arith, w32}
use Rattle.std.proofs.lemmas.Int.{to_z-of_z}
use Rattle.uac_units.specs.declared.jobs.UnitKind.TheVariants.{Mixer}
use Rattle.uac_units.specs.Rendering.{pins_sample, job_samples}
use Rattle.uac_units.proofs.RenderingWriteLemmas.{all_written, one_more}
use Rattle.uac_units.proofs.plain.render_mixer.Goals as goal

pub loop-channel-preserved : goal.loop-channel-preserved
loop-channel-preserved c =
    one_more (pins_sample Mixer c.args.job.now c.args.inputs.now) c.args.job.now.outputs c.loop-channel.channel c.loop-channel.out _ (omega arith)
    c.loop-channel.invariant (to_z-of_z w32 c.mix.result (record { sfits = c.mix.type_inv }) ∙ c.mix.ensures)

pub returns : goal.returns
unfolding job_samples
returns c =
    all_written (pins_sample Mixer c.args.job.now c.args.inputs.now) c.args.job.now.outputs c.loop-channel.channel c.loop-channel.out (omega arith)
    c.loop-channel.invariant
