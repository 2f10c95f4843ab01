use Rattle.std.proofs.Common.{◌∙◌, ap, arith, w32, ◌*◌, ◌+◌, ℕ}
use Rattle.std.proofs.lemmas.Int.{to_z-of_z}
use Rattle.uac_units.specs.declared.jobs.UnitKind.TheVariants.{Selector}
use Rattle.uac_units.specs.Rendering.{input, pins_sample, job_samples}
use Rattle.uac_units.proofs.RenderingWriteLemmas.{all_written, one_more}
use Rattle.uac_units.proofs.plain.render_selector.Goals as goal

pub loop-channel-preserved : goal.loop-channel-preserved
loop-channel-preserved c =
    one_more (pins_sample Selector c.args.job.now c.args.inputs.now) c.args.job.now.outputs c.loop-channel.channel c.loop-channel.out _ (omega arith)
    c.loop-channel.invariant
    (to_z-of_z w32 c.input_of.result (record { sfits = c.input_of.type_inv }) ∙ c.input_of.ensures
    ∙ ap (λ (n : ℕ). input c.args.inputs.now (c.args.job.now.pin * n + c.loop-channel.channel)) c.requires.sized)

pub returns : goal.returns
unfolding job_samples
returns c =
    all_written (pins_sample Selector c.args.job.now c.args.inputs.now) c.args.job.now.outputs c.loop-channel.channel c.loop-channel.out (omega arith)
    c.loop-channel.invariant
