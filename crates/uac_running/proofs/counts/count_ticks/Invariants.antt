use Rattle.uac_running.specs.TickCounts.{more_counted}
use Rattle.uac_device.proofs.ListChangeLemmas.{IsTurnedBelow}
use Rattle.uac_running.proofs.counts.count_ticks.Given as goal

abbrev pub invariant-loop-count : goal.invariant-loop-count
invariant-loop-count l = IsTurnedBelow (more_counted l.domain l.ticks) l.counts l.initial.counts l.count-index
