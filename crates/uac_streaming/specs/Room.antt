-- Between microframes each ring has room for the zeros that replace a lost packet (profile).
use Rattle.std.specs.Prelude.{◌≡◌, ℕ, ◌+◌, ◌*◌, ◌%◌, ◌<◌, ◌≤◌, nat_eq, false, length, Some, None}
use Rattle.std.specs.List.{All, IsDistinct}
use Rattle.uac_rate.specs.Levels.{IsInterval}
use Rattle.uac_ring.specs.Rings.{ring_frames}
use Rattle.uac_flow.specs.FlowStreams.{OutStream, out_level, priming_level}
use Rattle.uac_device.specs.DeviceKept.{IsDeviationInRange}
use Rattle.uac_device.specs.DeviceWorld.{DeviceWorld}

-- a stream to the device between two microframes: as many frames as its domain ticked since it was last due went out of its ring, or that
-- ring holds fewer than prime it; and in a microframe a domain ticks at most 27 times
pub record HasRoom (o : OutStream) : Type 0 where
  pub serves : IsInterval o.stream.service
  pub taken : o.taken ≤ length o.arrived
  pub waits : o.lost ≡ false
  pub level : out_level o + o.ticks ≤ ring_frames
  pub priming : o.target ≡ None → out_level o < priming_level o.stream
  pub few : o.ticks ≤ 27 * (o.microframes % o.stream.service)

-- so it is for each stream to the device; no clock is off by more than a tenth, and each domain is one
pub record HaveRoom (w : DeviceWorld) : Type 0 where
  pub deviations : All (λ d. IsDeviationInRange d.deviation) w.domains
  pub apart : IsDistinct nat_eq w.function.domains
  pub streams : (interface : ℕ) (o : OutStream) → w.outs interface ≡ Some o → HasRoom o
