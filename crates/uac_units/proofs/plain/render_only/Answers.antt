use Rattle.std.proofs.Common.{◌∙◌, arith, sym, w32}
use Rattle.std.proofs.lemmas.Int.{to_z-of_z}
use Rattle.uac_units.specs.declared.jobs.UnitKind.TheVariants.{Feature}
use Rattle.uac_units.specs.Rendering.{pins_sample, job_samples}
use Rattle.uac_units.proofs.RenderingWriteLemmas.{all_written, none_yet, one_more}
use Rattle.uac_units.proofs.plain.render_only.Goals as goal

pub returns-then-stays : goal.returns-then-stays
unfolding job_samples
returns-then-stays c =
    let sample = pins_sample Feature c.args.job.now c.args.inputs.now in
    let channels = c.args.job.now.outputs in
    all_written sample channels 1 _ (sym c.requires.one)
    (one_more sample channels 0 c.args.out.now _ (omega (arith, c.requires.one)) (none_yet sample channels c.args.out.now c.requires.sized)
    (to_z-of_z w32 c.unity_sample-only.result (record { sfits = c.unity_sample-only.type_inv }) ∙ c.unity_sample-only.ensures))
