use Rattle.std.proofs.Common.{◌+◌, arith, pos, get_or, rules, w32, refl}
use Rattle.std.proofs.lemmas.Int.{to_z-of_z}
use Rattle.uac_units.proofs.SampleRowsLemmas.{frame_written, frame_written_more, ticks_kept}
use Rattle.uac_units.proofs.row_frames.write_frame.Goals as goal

pub set-requires : goal.set-requires
set-requires c =
    let there =
    ticks_kept (c.args.tick + 1) c.args.rows.now c.loop-channel.rows c.loop-channel.invariant.lengths c.requires.inside c.loop-channel.channel c.index-rows-channel.result (omega arith) in
    omega (arith, there)

pub loop-channel-init : goal.loop-channel-init
loop-channel-init c = record { here = refl; others = λ other apart. refl; lengths = refl }

pub loop-channel-preserved : goal.loop-channel-preserved
loop-channel-preserved c =
    let there =
    ticks_kept (c.args.tick + 1) c.args.rows.now c.loop-channel.rows c.loop-channel.invariant.lengths c.requires.inside c.loop-channel.channel c.index-rows-channel.result (omega arith) in
    rw c.set.ensures
    (frame_written_more c.args.tick c.loop-channel.channel c.args.frame.now c.args.rows.now c.loop-channel.rows c.index-rows-channel.result _ c.loop-channel.invariant
    (omega arith) (omega (arith, there)) (omega arith) (to_z-of_z w32 (get_or c.args.frame.now c.loop-channel.channel (pos 0)) (search rules)))

pub returns-clause-here : goal.returns-clause-here
returns-clause-here c = frame_written c.args.tick c.loop-channel.channel c.args.frame.now c.args.rows.now c.loop-channel.rows c.loop-channel.invariant (omega arith) (omega arith)
