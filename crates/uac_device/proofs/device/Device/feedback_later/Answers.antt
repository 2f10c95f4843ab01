use Rattle.std.proofs.Common.{subst, sym}
use Rattle.uac_device.specs.DeviceKept.{DeviceFields, DeviceStands}
use Rattle.uac_device.proofs.device.Device.feedback_later.Goals as goal

pub returns : goal.returns
returns c w stands =
    let here = subst (λ (device : DeviceFields). DeviceStands device w) (sym c.self.view_is) stands in c.feedback_later.ensures w.outs w.ins here.streams
