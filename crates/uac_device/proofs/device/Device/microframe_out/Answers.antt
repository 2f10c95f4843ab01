use Rattle.std.proofs.Common.{subst, sym}
use Rattle.std.specs.Option.{option_map}
use Rattle.uac_device.specs.DeviceWorld.{arrival_in}
use Rattle.uac_device.specs.DeviceKept.{DeviceFields, DeviceStands}
use Rattle.uac_device.specs.contracts.device.Device.{the_view}
use Rattle.uac_device.proofs.DeviceKeptStreamLemmas.{device_with_streams, received_stands}
use Rattle.uac_device.proofs.device.Device.microframe_out.Goals as goal

pub invariant_of-self : goal.invariant_of-self
invariant_of-self c = (device_with_streams (the_view c.self.inside) c.receive.new.self c.self.invariant.0 c.receive.ensures.ports, c.self.invariant.1, c.self.invariant.2, c.self.invariant.3, c.self.invariant.4)

pub returns-clause-stands : goal.returns-clause-stands
returns-clause-stands c w stands =
    let here = subst (λ (device : DeviceFields). DeviceStands device w) (sym c.self.view_is) stands in
    received_stands (the_view c.self.inside) c.receive.new.self w c.args.interface (option_map (λ p. p.now.items) c.args.packet) here
    (c.receive.ensures.stands w.outs w.ins here.streams)

pub returns-clause-arrival : goal.returns-clause-arrival
unfolding arrival_in
returns-clause-arrival c w stands =
    let here = subst (λ (device : DeviceFields). DeviceStands device w) (sym c.self.view_is) stands in c.receive.ensures.arrival w.outs w.ins here.streams
