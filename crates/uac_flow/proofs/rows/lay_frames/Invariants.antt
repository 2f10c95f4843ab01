use Rattle.std.proofs.Common.{get_or, []}
use Rattle.uac_flow.proofs.FlowTicksRowLemmas.{FramesAreLaid}
use Rattle.uac_flow.proofs.rows.lay_frames.Given as goal

abbrev pub invariant-loop-tick : goal.invariant-loop-tick
invariant-loop-tick l = FramesAreLaid 0 l.tick (λ tick. get_or l.ring tick []) l.initial.rows l.rows
