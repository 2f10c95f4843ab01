use Rattle.std.proofs.Common.{subst, sym}
use Rattle.uac_device.specs.DeviceWorld.{is_due_in}
use Rattle.uac_device.specs.DeviceKept.{DeviceFields, DeviceStands}
use Rattle.uac_device.proofs.device.Device.due.Goals as goal

pub returns : goal.returns
unfolding is_due_in
returns c w stands =
    let here = subst (λ (device : DeviceFields). DeviceStands device w) (sym c.self.view_is) stands in c.due.ensures w.outs w.ins here.streams
