use Rattle.std.proofs.Common.{◌≡◌, take}
use Rattle.uac_units.specs.MeterReadings.{readings}
use Rattle.uac_device.specs.DeviceWorld.{after_frames}
use Rattle.uac_device.specs.DeviceTurns.{frames_heard}
use Rattle.uac_device.proofs.hearing.hear.Given as goal

abbrev pub invariant-loop-jack : goal.invariant-loop-jack
invariant-loop-jack g l =
    readings (λ v x. (goal.Meter-dyn g (v, x)).reading_of x) l.meters
    ≡ after_frames (frames_heard l.wires l.domain (take l.jack-index l.jacks)) (readings (λ v x. (goal.Meter-dyn g (v, x)).reading_of x) l.fn.meters)
