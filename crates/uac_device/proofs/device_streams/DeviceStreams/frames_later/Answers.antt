use Rattle.std.proofs.Common.{◌≡◌, Some}
use Rattle.uac_device.specs.DeviceStreams.{device_stream_index}
use Rattle.uac_device.proofs.DeviceStreamsLemmas.{asked_at}
use Rattle.uac_device.proofs.device_streams.DeviceStreams.frames_later.Goals as goal

pub returns-in-Some-clause-frames : goal.returns-in-Some-clause-frames
returns-in-Some-clause-frames c outs ins keeps =
    let is : Some c.in-Some.index ≡ device_stream_index c.self.inside.list.items c.args.interface = cc (c.in-Some.ensures, c.into.ensures, c.self.view_is) in
    c.frames_later.ensures.frames (outs c.args.interface) (ins c.args.interface)
    (asked_at c.args.self.now c.self.inside.list.items outs ins c.args.interface c.in-Some.index c.index.result.now c.self.view_is keeps is c.index.ensures)
