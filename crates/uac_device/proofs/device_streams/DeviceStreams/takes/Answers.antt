use Rattle.std.proofs.Common.{◌≡◌, Some}
use Rattle.uac_device.specs.DeviceStreams.{device_stream_index}
use Rattle.uac_device.proofs.DeviceStreamsLemmas.{asked_at}
use Rattle.uac_device.proofs.device_streams.DeviceStreams.takes.Goals as goal

pub returns-in-Some : goal.returns-in-Some
returns-in-Some c outs ins packet keeps =
    let is : Some c.in-Some.index ≡ device_stream_index c.self.inside.list.items c.args.interface = cc (c.in-Some.ensures, c.into.ensures, c.self.view_is) in
    c.takes.ensures (outs c.args.interface) (ins c.args.interface) packet
    (asked_at c.args.self.now c.self.inside.list.items outs ins c.args.interface c.in-Some.index c.index.result.now c.self.view_is keeps is c.index.ensures)
