use Rattle.std.proofs.Common.{arith}
use Rattle.uac_running.specs.RunningWorld.{jack_with_tone}
use Rattle.uac_device.proofs.ListChangeLemmas.{turned_all, turned_more}
use Rattle.uac_running.proofs.jacks.set_tone.Goals as goal

pub loop-jack-preserved : goal.loop-jack-preserved
loop-jack-preserved c =
    turned_more (jack_with_tone c.args.terminal c.args.tone) c.loop-jack.jacks c.args.jacks.now c.loop-jack.jack-index c.jack_with_tone.result _
    (omega (arith, c.loop-jack.invariant.same)) c.loop-jack.invariant c.jack_with_tone.ensures

pub returns : goal.returns
returns c =
    turned_all (jack_with_tone c.args.terminal c.args.tone) c.loop-jack.jacks c.args.jacks.now c.loop-jack.jack-index (omega (arith, c.loop-jack.invariant.same)) c.loop-jack.invariant
