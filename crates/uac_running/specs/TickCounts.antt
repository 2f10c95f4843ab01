-- How the ticks of a device's domains are counted.
use Rattle.std.specs.Prelude.{ℕ, ◌+◌, ◌==◌, if◌then◌else◌}
use Rattle.uac_units.specs.Hearing.{at_most_u64}
use Rattle.uac_device.specs.DeviceWorld.{Domain}
use Rattle.uac_running.specs.declared.counts.TickCount.{TickCount}
use Rattle.uac_running.specs.ReportLines.{ticks_since}

-- the count of a domain
abbrev pub tick_count_of : Domain → TickCount
tick_count_of d = record { domain = d.id; ticks = ticks_since d }

-- a domain that hasn't ticked
abbrev pub none_counted : ℕ → TickCount
none_counted domain = record { domain = domain; ticks = 0 }

-- a domain's ticks, and so many more where it is the one with this clock
abbrev pub more_counted : ℕ → ℕ → TickCount → TickCount
more_counted domain ticks c = if c.domain == domain then record c { ticks = at_most_u64 (c.ticks + ticks) } else c
