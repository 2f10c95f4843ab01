use Rattle.std.proofs.Common.{arith}
use Rattle.uac_running.specs.TickCounts.{more_counted}
use Rattle.uac_device.proofs.ListChangeLemmas.{turned_all, turned_more}
use Rattle.uac_running.proofs.counts.count_ticks.Goals as goal

pub loop-count-preserved : goal.loop-count-preserved
loop-count-preserved c =
    turned_more (more_counted c.args.domain c.args.ticks) c.loop-count.counts c.args.counts.now c.loop-count.count-index c.after_ticks.result _
    (omega (arith, c.loop-count.invariant.same)) c.loop-count.invariant c.after_ticks.ensures

pub returns : goal.returns
returns c =
    turned_all (more_counted c.args.domain c.args.ticks) c.loop-count.counts c.args.counts.now c.loop-count.count-index (omega (arith, c.loop-count.invariant.same))
    c.loop-count.invariant
