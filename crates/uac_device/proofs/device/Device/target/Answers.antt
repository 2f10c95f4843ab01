use Rattle.std.proofs.Common.{subst, sym}
use Rattle.uac_device.specs.DeviceWorld.{target_of}
use Rattle.uac_device.specs.DeviceKept.{DeviceFields, DeviceStands}
use Rattle.uac_device.proofs.device.Device.target.Goals as goal

pub returns : goal.returns
unfolding target_of
returns c w stands =
    let here = subst (λ (device : DeviceFields). DeviceStands device w) (sym c.self.view_is) stands in c.target.ensures w.outs w.ins here.streams
