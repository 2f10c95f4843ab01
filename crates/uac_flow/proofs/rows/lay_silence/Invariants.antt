use Rattle.std.proofs.Common.{length, replicate, pos}
use Rattle.uac_flow.proofs.FlowTicksRowLemmas.{FramesAreLaid}
use Rattle.uac_flow.proofs.rows.lay_silence.Given as goal

abbrev pub invariant-loop-tick : goal.invariant-loop-tick
invariant-loop-tick l = FramesAreLaid l.from l.tick (λ tick. replicate (length l.initial.rows) (pos 0)) l.initial.rows l.rows
