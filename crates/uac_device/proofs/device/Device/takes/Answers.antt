use Rattle.std.proofs.Common.{subst, sym}
use Rattle.uac_device.specs.DeviceKept.{DeviceFields, DeviceStands}
use Rattle.uac_device.proofs.device.Device.takes.Goals as goal

pub returns : goal.returns
returns c w packet stands =
    let here = subst (λ (device : DeviceFields). DeviceStands device w) (sym c.self.view_is) stands in
    c.takes.ensures w.outs w.ins packet here.streams
