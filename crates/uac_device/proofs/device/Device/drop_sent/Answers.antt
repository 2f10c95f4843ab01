use Rattle.std.proofs.Common.{subst, sym}
use Rattle.uac_flow.specs.FlowWaits.{sent_more}
use Rattle.uac_device.specs.InterfaceStreams.{streams_changed_at}
use Rattle.uac_device.specs.DeviceKept.{DeviceFields, DeviceStands}
use Rattle.uac_device.specs.contracts.device.Device.{the_view}
use Rattle.uac_device.proofs.DeviceKeptStreamLemmas.{stands_streams}
use Rattle.uac_device.proofs.device.Device.drop_sent.Goals as goal

pub returns-clause-stands : goal.returns-clause-stands
returns-clause-stands c w stands there =
    let here = subst (λ (device : DeviceFields). DeviceStands device w) (sym c.self.view_is) stands in
    stands_streams (the_view c.self.inside) c.drop_sent.new.self w w.outs (streams_changed_at c.args.interface (sent_more c.args.count) w.ins) here
    (c.drop_sent.ensures.stands w.outs w.ins here.streams there)
