use Rattle.std.proofs.Common.{◌+◌, ◌-◌, arith, length, refl}
use Rattle.uac_graph.proofs.TickRowsLemmas.{put_frame, put_lengths}
use Rattle.uac_graph.proofs.row_slots.put_rows.Goals as goal

pub returns-clause-frames : goal.returns-clause-frames
returns-clause-frames c = λ tick early.
    put_frame tick c.args.from (c.args.from + length c.args.rows.now - c.args.from) c.args.pins.now c.copy_rows.new.out c.args.rows.now (c.args.from + length c.args.rows.now)
    refl (omega (arith, c.requires.inside)) (c.copy_rows.ensures.frames tick early)

pub returns-clause-lengths : goal.returns-clause-lengths
returns-clause-lengths c =
    put_lengths c.args.from (c.args.from + length c.args.rows.now - c.args.from) c.args.pins.now c.copy_rows.new.out c.copy_rows.ensures.lengths
