use Rattle.std.proofs.Common.{subst, sym}
use Rattle.uac_device.specs.DeviceKept.{DeviceFields, DeviceStands}
use Rattle.uac_device.proofs.device.Device.frames_later.Goals as goal

pub returns-clause-frames : goal.returns-clause-frames
returns-clause-frames c w stands =
    let here = subst (λ (device : DeviceFields). DeviceStands device w) (sym c.self.view_is) stands in c.frames_later.ensures.frames w.outs w.ins here.streams
