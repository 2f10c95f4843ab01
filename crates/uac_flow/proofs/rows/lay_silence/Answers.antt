use Rattle.std.proofs.Common.{arith, length, replicate, pos}
use Rattle.uac_flow.proofs.FlowTicksRowLemmas.{next_inside}
use Rattle.uac_flow.proofs.rows.lay_silence.Goals as goal

pub write_frame-requires-clause-inside : goal.write_frame-requires-clause-inside
write_frame-requires-clause-inside c =
    next_inside c.args.from c.loop-tick.tick c.args.ticks (λ tick. replicate (length c.args.rows.now) (pos 0)) c.args.rows.now c.loop-tick.rows c.loop-tick.invariant
    (omega arith) c.requires.inside
