-- The stream and the track of the host stream are the world's.
use Rattle.std.proofs.Common.{◌∙◌}
use Rattle.uac_host.proofs.HostKeptCallLemmas.{host_stream_sends, rests_in, unsent}
use Rattle.uac_host.proofs.host_streams.HostStream.send_out.Goals as goal

pub returns-in-Some-clause-size : goal.returns-in-Some-clause-size
returns-in-Some-clause-size c w kept =
    (host_stream_sends w c.args.self.now c.in-Some.pace c.size-frames.new.self c.format-format.result.channels c.format-format.result.subslot c.format-format.result.bits c.size-frames.result
    c.fill.new.self c.fill.new.packet.items kept c.in-Some.is c.size-frames.ensures.frames c.size-frames.ensures.kept
    c.format-format.ensures.channels c.format-format.ensures.subslot c.format-format.ensures.bits c.fill.ensures.stands).0

pub returns-in-Some-clause-packet : goal.returns-in-Some-clause-packet
returns-in-Some-clause-packet c w kept =
    (host_stream_sends w c.args.self.now c.in-Some.pace c.size-frames.new.self c.format-format.result.channels c.format-format.result.subslot c.format-format.result.bits c.size-frames.result
    c.fill.new.self c.fill.new.packet.items kept c.in-Some.is c.size-frames.ensures.frames c.size-frames.ensures.kept
    c.format-format.ensures.channels c.format-format.ensures.subslot c.format-format.ensures.bits c.fill.ensures.stands).1

pub returns-in-Some-clause-stands : goal.returns-in-Some-clause-stands
returns-in-Some-clause-stands c w kept =
    (host_stream_sends w c.args.self.now c.in-Some.pace c.size-frames.new.self c.format-format.result.channels c.format-format.result.subslot c.format-format.result.bits c.size-frames.result
    c.fill.new.self c.fill.new.packet.items kept c.in-Some.is c.size-frames.ensures.frames c.size-frames.ensures.kept
    c.format-format.ensures.channels c.format-format.ensures.subslot c.format-format.ensures.bits c.fill.ensures.stands).2

pub returns-in-None-clause-size : goal.returns-in-None-clause-size
returns-in-None-clause-size c w kept = (unsent w c.args.self.now.interface (rests_in w c.args.self.now kept c.in-None.is)).0

pub returns-in-None-clause-packet : goal.returns-in-None-clause-packet
returns-in-None-clause-packet c w kept = c.clear.ensures ∙ (unsent w c.args.self.now.interface (rests_in w c.args.self.now kept c.in-None.is)).1

pub returns-in-None-clause-stands : goal.returns-in-None-clause-stands
returns-in-None-clause-stands c w kept = kept.host_stream ∙ (unsent w c.args.self.now.interface (rests_in w c.args.self.now kept c.in-None.is)).2
