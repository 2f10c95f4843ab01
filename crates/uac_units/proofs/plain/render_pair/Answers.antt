use Rattle.std.proofs.Common.{◌∙◌, arith, sym, w32}
use Rattle.std.proofs.lemmas.Int.{to_z-of_z}
use Rattle.uac_units.specs.declared.jobs.UnitKind.TheVariants.{Feature}
use Rattle.uac_units.specs.Rendering.{pins_sample, job_samples}
use Rattle.uac_units.proofs.RenderingWriteLemmas.{all_written, none_yet, one_more}
use Rattle.uac_units.proofs.plain.render_pair.Goals as goal

pub returns-then-stays-2 : goal.returns-then-stays-2
unfolding job_samples
returns-then-stays-2 c =
    let sample = pins_sample Feature c.args.job.now c.args.inputs.now in
    let channels = c.args.job.now.outputs in
    all_written sample channels 2 _ (sym c.requires.two)
    (one_more sample channels 1 _ _ (omega (arith, c.requires.two))
    (one_more sample channels 0 c.args.out.now _ (omega (arith, c.requires.two)) (none_yet sample channels c.args.out.now c.requires.sized)
    (to_z-of_z w32 c.unity_sample-left.result (record { sfits = c.unity_sample-left.type_inv }) ∙ c.unity_sample-left.ensures))
    (to_z-of_z w32 c.unity_sample-right.result (record { sfits = c.unity_sample-right.type_inv }) ∙ c.unity_sample-right.ensures))
