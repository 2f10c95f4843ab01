-- What is kept of streams between a host and a device, and for which worlds it stands.
use Rattle.std.specs.Prelude.{◌≡◌, ℕ, List, Option, Result, OnOk}
use Rattle.uac_rate.specs.Steadiness as steadiness
use Rattle.uac_device.specs.DeviceKept as devices
use Rattle.uac_host.specs.HostKept as hosts
use Rattle.uac_host.specs.declared.host_streams.HostStream.{HostStream}
use Rattle.uac_ring.specs.declared.counts.StreamCounts.{StreamCounts}
use Rattle.uac_transcript.specs.Printing.{Prints}
use Rattle.uac_streaming.specs.Telling.{Telling}
use Rattle.uac_streaming.specs.StreamingWorld.{StreamingWorld, met_in, numbers, numbers_in, numbers_out}

-- what is kept beside the device: the host, the interfaces by number, and of them those to the device and those from it, what each one's
-- streams met, in block order, whether all was steady, the last packet to the device, and the last that was fetched from it
pub record StreamingFields : Type 0 where
  pub host : List HostStream
  pub order : List ℕ
  pub outs : List ℕ
  pub ins : List ℕ
  pub met : List StreamCounts
  pub steady : steadiness.SteadyFields
  pub sent_out_packet : List ℕ
  pub fetched_packet : List ℕ

-- `Streaming` stands, beside a device, for this world
pub record StreamingStands (streaming : StreamingFields) (beside : devices.DeviceFields) (w : StreamingWorld) : Type 0 where
  pub device : devices.DeviceStands beside w.device
  pub host : hosts.HostStands streaming.host w.host
  pub same : w.host.function ≡ w.device.function
  pub order : streaming.order ≡ numbers w.device.function
  pub outs : streaming.outs ≡ numbers_out w.device.function
  pub ins : streaming.ins ≡ numbers_in w.device.function
  pub met : streaming.met ≡ met_in w.met w.device.function
  pub steady : steadiness.SteadyStands streaming.steady w.history

-- what was told was printed: all of it, and what is kept stands for its world; or at an error a front of it
abbrev pub StreamingTells : {T E : Type 0} → Telling StreamingWorld → StreamingFields → devices.DeviceFields → Option (List ℕ)
    → Option (List ℕ)
    → Result T E → Type 0
StreamingTells told streaming device old new result = Prints old new result told.lines
    × OnOk result (StreamingStands streaming device told.world)
