use Rattle.uac_device.proofs.ListChangeLemmas.{IsTurnedBelow}
use Rattle.uac_mixer.specs.ViewTransfers.{came_of, element_after}
use Rattle.uac_mixer.proofs.transfers.follow_all.Given as goal

abbrev pub invariant-loop-element : goal.invariant-loop-element
invariant-loop-element l = IsTurnedBelow (element_after l.control l.setup l.sent (came_of l.came)) l.elements l.initial.elements l.element-index
