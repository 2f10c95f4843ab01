use Rattle.std.proofs.Common.{◌≡◌, map, take}
use Rattle.uac_running.specs.TickCounts.{none_counted}
use Rattle.uac_running.proofs.counts.no_ticks.Given as goal

abbrev pub invariant-loop-clock : goal.invariant-loop-clock
invariant-loop-clock l = l.counts.items ≡ map none_counted (take l.clock-index l.domains)
