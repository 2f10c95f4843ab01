use Rattle.uac_units.specs.declared.jobs.UnitKind.TheVariants.{Feature}
use Rattle.uac_units.specs.Rendering.{pins_sample}
use Rattle.uac_units.proofs.RenderingWriteLemmas.{AreWritten}
use Rattle.uac_units.proofs.plain.render_channels.Given as goal

abbrev pub invariant-loop-channel : goal.invariant-loop-channel
invariant-loop-channel l = AreWritten (pins_sample Feature l.job l.inputs) l.job.outputs l.channel l.out
