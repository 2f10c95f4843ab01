use Rattle.std.proofs.Common.{◌∙◌}
use Rattle.uac_units.proofs.RenderingWriteLemmas.{effect_alone}
use Rattle.uac_units.proofs.plain.render_samples.Goals as goal

pub returns-in-Effect : goal.returns-in-Effect
returns-in-Effect c =
    c.copy_from_slice.ensures.after ∙ effect_alone c.args.kind c.args.job.now c.args.inputs.now c.in-Effect.is c.requires.fits
