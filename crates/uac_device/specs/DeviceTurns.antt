-- What the events make of what a device keeps: clock by clock, and the frames that are heard on the wires.
use Rattle.std.specs.Prelude.{ℕ, ◌+◌, ◌*◌, ◌/◌, ◌%◌, ◌==◌, if◌then◌else◌, ℤ, pos, List, map, filter, Option, None, Some}
use Rattle.std.specs.List.{find, filter_map}
use Rattle.std.specs.Option.{option_map_or}
use Rattle.uac_clock.specs.Nominal.{step_of}
use Rattle.uac_clock.specs.declared.values.Nominal.{Nominal}
use Rattle.uac_entities.specs.declared.entity.Entity.{Entity}
use Rattle.uac_graph.specs.Wiring.{Frames, frame_on}
use Rattle.uac_device.specs.DeviceWorld.{is_output_jack}
use Rattle.uac_device.specs.declared.clocks.DomainClock.{DomainClock}
use Rattle.uac_device.specs.declared.hearing.OutputJack.{OutputJack}

-- a clock that is not off, at a tick
abbrev pub resting_clock : ℕ → DomainClock
resting_clock domain = record { domain = domain; deviation = pos 0; phase = 0 }

-- a domain's clock is off by so many ppm from now on; another's stays
abbrev pub clock_after_deviation : ℕ → ℤ → DomainClock → DomainClock
clock_after_deviation domain ppm c = if c.domain == domain then record c { deviation = ppm } else c

-- what a clock that is off gives in a microframe, by the nominal values of its rate; without a rate it gives nothing
abbrev pub step_by : Option Nominal → ℤ → ℕ
step_by values ppm = option_map_or (λ v. step_of v ppm) values 0

-- a domain's clock goes on by so many microframes; another's stays
abbrev pub clock_after_advances : ℕ → Option Nominal → ℕ → DomainClock → DomainClock
clock_after_advances domain values n c = if c.domain == domain then record c { phase = (c.phase + step_by values c.deviation * n) % 65536 } else c

-- how often a clock ticks in so many microframes
abbrev pub ticks_of : Option Nominal → ℕ → DomainClock → ℕ
ticks_of values n c = (c.phase + step_by values c.deviation * n) / 65536

-- the ticks that come as a domain's clock goes on
abbrev pub ticks_where : ℕ → Option Nominal → ℕ → DomainClock → Option ℕ
ticks_where domain values n c = if c.domain == domain then Some (ticks_of values n c) else None

-- the ticks of the first clock of a domain
abbrev pub first_ticks : ℕ → Option Nominal → ℕ → List DomainClock → ℕ
first_ticks domain values n clocks = option_map_or (ticks_of values n) (find (λ c. c.domain == domain) clocks) 0

-- an output jack, as it is kept, and those among entities
abbrev pub jack_of : Entity → OutputJack
jack_of e = record { terminal = e.id; domain = e.clock }

abbrev pub jacks_of : List Entity → List OutputJack
jacks_of entities = map jack_of (filter is_output_jack entities)

-- the frame that meters hear of an output jack after a tick of a domain: that of a jack of the domain
abbrev pub heard_on : Frames → ℕ → OutputJack → Option (List ℤ)
heard_on wires domain j = if j.domain == domain then frame_on wires j.terminal else None

-- the frames that meters hear, in the order of the jacks
abbrev pub frames_heard : Frames → ℕ → List OutputJack → List (List ℤ)
frames_heard wires domain jacks = filter_map (heard_on wires domain) jacks
