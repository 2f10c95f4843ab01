use Rattle.std.proofs.Common.{◌∙◌, sym, arith}
use Rattle.uac_device.specs.Jacks.{jack_after}
use Rattle.uac_device.proofs.ListChangeLemmas.{turned_all, turned_more}
use Rattle.uac_running.proofs.EventTicksLemmas.{jacks_each}
use Rattle.uac_running.proofs.jacks.pass_frames.Goals as goal

pub loop-passed-preserved : goal.loop-passed-preserved
loop-passed-preserved c =
    turned_more (jack_after c.args.domain c.args.count) c.loop-passed.jacks c.args.jacks.now c.loop-passed.passed-index c.pass_some.new.jack _
    (omega (arith, c.loop-passed.invariant.same)) c.loop-passed.invariant c.pass_some.ensures

pub returns : goal.returns
returns c =
    turned_all (jack_after c.args.domain c.args.count) c.loop-passed.jacks c.args.jacks.now c.loop-passed.passed-index (omega (arith, c.loop-passed.invariant.same))
    c.loop-passed.invariant
    ∙ sym (jacks_each c.args.domain c.args.count c.args.jacks.now)
