use Rattle.std.proofs.Common.{subst, sym}
use Rattle.uac_device.specs.DeviceWorld.{level_of}
use Rattle.uac_device.specs.DeviceKept.{DeviceFields, DeviceStands}
use Rattle.uac_device.proofs.device.Device.level.Goals as goal

pub returns : goal.returns
unfolding level_of
returns c w stands =
    let here = subst (λ (device : DeviceFields). DeviceStands device w) (sym c.self.view_is) stands in c.level.ensures w.outs w.ins here.streams
