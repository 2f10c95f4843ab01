use Rattle.std.proofs.Common.{◌+◌, ◌∙◌, refl, sym, subst, arith, get_or, [], List, ℤ}
use Rattle.std.proofs.lemmas.Option.{same_Some, slice_get-get_or}
use Rattle.uac_flow.proofs.FlowTicksRowLemmas.{FramesAreLaid, laid_more, next_inside}
use Rattle.uac_flow.proofs.rows.lay_frames.Goals as goal
use Rattle.uac_flow.proofs.rows.lay_frames.Goals.{in-Some, in_default}

pub write_frame-requires-clause-inside : goal.write_frame-requires-clause-inside
write_frame-requires-clause-inside c =
    next_inside 0 c.loop-tick.tick c.args.count (λ tick. get_or c.args.ring.now tick []) c.args.rows.now c.loop-tick.rows c.loop-tick.invariant (omega arith)
    c.requires.inside

pub loop-tick-preserved : goal.loop-tick-preserved
loop-tick-preserved c = elim c.match-at.branch [
  | in-Some w ↦
      subst (λ (rows : List (List ℤ)). FramesAreLaid 0 (c.loop-tick.tick + 1) (λ tick. get_or c.args.ring.now tick []) c.args.rows.now rows) (sym w.rows-is)
      (laid_more 0 c.loop-tick.tick (λ tick. get_or c.args.ring.now tick []) c.args.rows.now c.loop-tick.rows w.write_frame.new.rows c.loop-tick.invariant (omega arith)
      (w.write_frame.ensures.here ∙ w.as_slice.ensures.value
      ∙ same_Some w.in-Some.frame.now.items (get_or c.args.ring.now c.loop-tick.tick [])
      (w.in-Some.ensures.frame ∙ slice_get-get_or c.args.ring.now c.loop-tick.tick [] (omega (arith, c.requires.there, c.loop-tick-test.true)))) w.write_frame.ensures.others w.write_frame.ensures.lengths)
  | in_default w ↦ absurd (omega (arith, w.in_default.ensures.none.0 refl, c.requires.there, c.loop-tick-test.true))
]
