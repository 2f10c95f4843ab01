use Rattle.uac_flow.specs.FlowTicks.{in_after_ticks}
use Rattle.uac_units.specs.SampleRows.{frame_at}
use Rattle.uac_flow.proofs.FlowTicksLemmas.{put_next, put_none}
use Rattle.uac_flow.proofs.inward.InFlow.put_each.Goals as goal

pub loop-tick-init : goal.loop-tick-init
loop-tick-init c = (
  λ i stands. put_none c.args.ring.now c.args.self.now (λ tick. frame_at tick c.args.rows.now) i stands,
  c.requires.sound,
)

pub loop-tick-preserved : goal.loop-tick-preserved
loop-tick-preserved c = (
  λ i stands.
      put_next c.put.new.ring c.args.self.now (λ tick. frame_at tick c.args.rows.now) c.loop-tick.tick i c.read_frame.new.frame.items c.read_frame.ensures
      (c.put.ensures.stands (in_after_ticks (λ tick. frame_at tick c.args.rows.now) c.loop-tick.tick i) (c.loop-tick.invariant.0 i stands)),
  c.put.ensures.sound,
)
