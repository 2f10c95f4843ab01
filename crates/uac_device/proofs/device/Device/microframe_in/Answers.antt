use Rattle.std.proofs.Common.{subst, sym}
use Rattle.uac_device.specs.DeviceWorld.{frames_in, packet_in}
use Rattle.uac_device.specs.DeviceKept.{DeviceFields, DeviceStands}
use Rattle.uac_device.specs.contracts.device.Device.{the_view}
use Rattle.uac_device.proofs.DeviceKeptStreamLemmas.{device_with_streams, sent_stands}
use Rattle.uac_device.proofs.device.Device.microframe_in.Goals as goal

pub invariant_of-self : goal.invariant_of-self
invariant_of-self c = (device_with_streams (the_view c.self.inside) c.send_in.new.self c.self.invariant.0 c.send_in.ensures.ports, c.self.invariant.1, c.self.invariant.2, c.self.invariant.3, c.self.invariant.4)

pub returns-clause-stands : goal.returns-clause-stands
returns-clause-stands c w stands =
    let here = subst (λ (device : DeviceFields). DeviceStands device w) (sym c.self.view_is) stands in
    sent_stands (the_view c.self.inside) c.send_in.new.self w c.args.interface here (c.send_in.ensures.stands w.outs w.ins here.streams)

pub returns-clause-packet : goal.returns-clause-packet
unfolding packet_in
returns-clause-packet c w stands =
    let here = subst (λ (device : DeviceFields). DeviceStands device w) (sym c.self.view_is) stands in c.send_in.ensures.packet w.outs w.ins here.streams

pub returns-clause-frames : goal.returns-clause-frames
unfolding frames_in
returns-clause-frames c w stands =
    let here = subst (λ (device : DeviceFields). DeviceStands device w) (sym c.self.view_is) stands in c.send_in.ensures.frames w.outs w.ins here.streams
