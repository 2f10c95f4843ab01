-- What streams meet: packets that are lost, rings found empty and full, reports that are missed (profile).
use Rattle.std.specs.Prelude.{ℕ, ◌+◌}
use Rattle.uac_pcm.specs.Counts.{at_most_u64}
use Rattle.uac_ring.specs.declared.arrival.Arrival.{Arrival}
use Rattle.uac_ring.specs.declared.arrival.Arrival.TheVariants as arrivals
use Rattle.uac_ring.specs.declared.counts.StreamCounts.{StreamCounts}

-- streams that met nothing
abbrev pub nothing_met : StreamCounts
nothing_met = record { under = 0; over = 0; lost = 0; missed = 0 }

-- a packet was lost
abbrev pub one_lost : StreamCounts → StreamCounts
one_lost c = record c { lost = at_most_u64 (c.lost + 1) }

-- a ring had no room for a packet, or for a frame
abbrev pub one_over : StreamCounts → StreamCounts
one_over c = record c { over = at_most_u64 (c.over + 1) }

-- a primed ring was found empty
abbrev pub one_under : StreamCounts → StreamCounts
one_under c = record c { under = at_most_u64 (c.under + 1) }

-- a report was lost
abbrev pub one_missed : StreamCounts → StreamCounts
one_missed c = record c { missed = at_most_u64 (c.missed + 1) }

-- a packet arrived so
abbrev pub after_arrival : Arrival → StreamCounts → StreamCounts
after_arrival arrivals.Taken c = c
after_arrival arrivals.Lost c = one_lost c
after_arrival arrivals.Over c = one_over c
