use Rattle.std.proofs.Common.{◌∙◌, refl, sym, subst}
use Rattle.uac_device.specs.DeviceWorld.{after_sending_in_packet}
use Rattle.uac_streaming.specs.StreamingWorld.{StreamingWorld, packet_fetched}
use Rattle.uac_streaming.specs.StreamingKept.{StreamingFields, StreamingStands}
use Rattle.uac_streaming.specs.contracts.streaming.Streaming.{the_view}
use Rattle.uac_streaming.proofs.StreamingKeptLemmas.{carried}
use Rattle.uac_streaming.proofs.streaming.Streaming.fetch.Goals as goal

pub returns-clause-stands : goal.returns-clause-stands
unfolding packet_fetched after_sending_in_packet
returns-clause-stands c w stands =
    let p = the_view c.self.inside in
    let here = subst (λ (p : StreamingFields). StreamingStands p c.args.device.now w) (sym c.self.view_is) stands in
    let device = c.microframe_in-frames.ensures.stands w.device here.device in
    let sent_so : StreamingWorld = record w { device = after_sending_in_packet c.args.interface w.device } in
    let mid : StreamingStands (record p { fetched_packet = c.microframe_in-frames.new.packet.items }) c.microframe_in-frames.new.self sent_so =
    carried p c.args.device.now w here c.microframe_in-frames.new.self p.host p.sent_out_packet c.microframe_in-frames.new.packet.items (after_sending_in_packet c.args.interface w.device) w.host device here.host refl refl in
    c.count_fetched.ensures.stands c.microframe_in-frames.new.self sent_so mid (sym (c.function.ensures ∙ device.function))
