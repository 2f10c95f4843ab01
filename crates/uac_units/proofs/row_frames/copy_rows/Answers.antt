use Rattle.uac_units.proofs.SampleRowsLemmas.{copied}
use Rattle.uac_units.proofs.row_frames.copy_rows.Goals as goal

pub returns-clause-frames : goal.returns-clause-frames
returns-clause-frames c = copied c.args.ticks c.args.rows.now c.pass_rows.new.out c.args.out.now c.requires.sized c.pass_rows.auto.out c.pass_rows.ensures.samples
