use Rattle.uac_running.specs.RunningWorld.{jack_with_tone}
use Rattle.uac_device.proofs.ListChangeLemmas.{IsTurnedBelow}
use Rattle.uac_running.proofs.jacks.set_tone.Given as goal

abbrev pub invariant-loop-jack : goal.invariant-loop-jack
invariant-loop-jack l = IsTurnedBelow (jack_with_tone l.terminal l.tone) l.jacks l.initial.jacks l.jack-index
