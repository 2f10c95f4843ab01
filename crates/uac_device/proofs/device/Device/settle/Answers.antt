use Rattle.std.proofs.Common.{subst, sym}
use Rattle.uac_device.specs.DeviceWorld.{ZerosFitIn}
use Rattle.uac_device.specs.DeviceKept.{DeviceFields, DeviceStands}
use Rattle.uac_device.specs.contracts.device.Device.{the_view}
use Rattle.uac_device.proofs.DeviceKeptStreamLemmas.{device_with_streams, ended_stands}
use Rattle.uac_device.proofs.device.Device.settle.Goals as goal

pub invariant_of-self : goal.invariant_of-self
invariant_of-self c = (device_with_streams (the_view c.self.inside) c.end_microframe.new.self c.self.invariant.0 c.end_microframe.ensures.ports, c.self.invariant.1, c.self.invariant.2, c.self.invariant.3, c.self.invariant.4)

pub returns-clause-stands : goal.returns-clause-stands
unfolding ZerosFitIn
returns-clause-stands c w stands fit =
    let here = subst (λ (device : DeviceFields). DeviceStands device w) (sym c.self.view_is) stands in
    ended_stands (the_view c.self.inside) c.end_microframe.new.self w c.args.interface here (c.end_microframe.ensures.stands w.outs w.ins here.streams fit)
