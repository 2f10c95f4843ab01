use Rattle.uac_device.specs.Jacks.{jack_after}
use Rattle.uac_device.proofs.ListChangeLemmas.{IsTurnedBelow}
use Rattle.uac_running.proofs.jacks.pass_frames.Given as goal

abbrev pub invariant-loop-passed : goal.invariant-loop-passed
invariant-loop-passed l = IsTurnedBelow (jack_after l.domain l.count) l.jacks l.initial.jacks l.passed-index
