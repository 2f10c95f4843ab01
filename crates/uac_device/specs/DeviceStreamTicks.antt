-- Several ticks of a domain, as they are kept: what they make of the streams of the interfaces.
use Rattle.std.specs.Prelude.{ℕ, ◌==◌, ◌&&◌, ◌||◌, not, Bool, true, if◌then◌else◌, ℤ, List, Option}
use Rattle.std.specs.Option.{option_map, option_map_or}
use Rattle.uac_flow.specs.FlowStreams.{InStream, OutStream}
use Rattle.uac_flow.specs.FlowTicks.{has_room, in_after_ticks, lasts, out_after_ticks}
use Rattle.uac_device.specs.declared.device_stream.Port.{Port}

-- so many ticks of a domain find no ring of the interface empty, and none full
abbrev pub goes_on : ℕ → ℕ → Option OutStream → Option InStream → Port → Bool
goes_on domain ticks out in_ p = not (p.domain == domain) || (option_map_or (lasts ticks) out true && option_map_or (has_room ticks) in_ true)

-- what so many ticks of a domain make of the stream of an interface, where its terminal is of that domain
abbrev pub stream_after_on : ℕ → ℕ → Port → Option OutStream → Option OutStream
stream_after_on domain ticks p out = option_map (λ o. if p.domain == domain then out_after_ticks ticks o else o) out

abbrev pub stream_with_on : ℕ → ℕ → (ℕ → List ℤ) → Port → Option InStream → Option InStream
stream_with_on domain ticks frames p in_ = option_map (λ i. if p.domain == domain then in_after_ticks frames ticks i else i) in_
