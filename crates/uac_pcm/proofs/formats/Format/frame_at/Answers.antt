-- The frame's part of the packet begins where the frames before it end.
use Rattle.std.proofs.Common.{◌*◌, ◌<◌, arith, refl}
use Rattle.uac_pcm.specs.Packets.{whole_frames}
use Rattle.uac_pcm.proofs.PacketsLemmas.{read_at}
use Rattle.uac_pcm.proofs.formats.Format.frame_at.Goals as goal

pub returns-clause-samples : goal.returns-clause-samples
returns-clause-samples c =
    let outside = c.if-number-frames_in.false in
    let frames = c.frames_in.ensures.frames in
    let inside : c.args.number < whole_frames c.args.self.now.channels c.args.self.now.subslot c.args.packet.now.items = omega arith in
    read_at c.args.self.now.channels c.args.self.now.subslot c.args.self.now.bits c.args.number (c.args.number * c.frame_bytes-size.result)
    c.frame_bytes-size.result c.args.packet.now.items c.as_slice.result.now _ c.unpack.new.frame.items c.frame_bytes-size.ensures refl inside c.as_slice.ensures.value
    refl c.unpack.ensures.samples
