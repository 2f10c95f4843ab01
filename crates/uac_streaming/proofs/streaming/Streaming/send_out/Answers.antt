use Rattle.std.proofs.Common.{◌≡◌, ◌∙◌, refl, sym, subst, ap, Option, List, ℕ}
use Rattle.uac_ring.specs.declared.arrival.Arrival.{Arrival}
use Rattle.uac_device.specs.DeviceKept as devices
use Rattle.uac_device.specs.DeviceWorld.{arrival_in, after_receiving}
use Rattle.uac_host.specs.HostCalls.{after_host_packet}
use Rattle.uac_streaming.specs.StreamingWorld.{StreamingWorld, after_arrival, counted_at, packet_sent_out, packet_to}
use Rattle.uac_streaming.specs.StreamingKept.{StreamingFields, StreamingStands}
use Rattle.uac_streaming.specs.contracts.streaming.Streaming.{the_view}
use Rattle.uac_streaming.proofs.StreamingKeptLemmas.{carried, packet_is}
use Rattle.uac_streaming.proofs.streaming.Streaming.send_out.Goals as goal

pub returns-clause-stands : goal.returns-clause-stands
unfolding packet_sent_out after_receiving after_host_packet
returns-clause-stands c w stands =
    let p = the_view c.self.inside in
    let here = subst (λ (p : StreamingFields). StreamingStands p c.args.device.now w) (sym c.self.view_is) stands in
    let q : StreamingFields = record p { host = c.packet-frames.new.self; sent_out_packet = c.packet-frames.new.packet.items } in
    let to = packet_to c.args.lost c.args.interface w in
    let same : c.deref.result.now.items ≡ c.packet-frames.new.packet.items = ap (λ packet. packet.items) c.deref.ensures in
    let comes = packet_is c.args.lost c.args.interface w c.deref.result.now.items (same ∙ c.packet-frames.ensures.packet w.host here.host) in
    let device : devices.DeviceStands c.arrive-arrival.new.device (after_receiving c.args.interface to w.device) =
    subst (λ (b : Option (List ℕ)). devices.DeviceStands c.arrive-arrival.new.device (after_receiving c.args.interface b w.device)) comes (c.arrive-arrival.ensures.stands w.device here.device) in
    let arrival : c.arrive-arrival.result ≡ arrival_in w.device c.args.interface to =
    c.arrive-arrival.ensures.arrival w.device here.device ∙ ap (arrival_in w.device c.args.interface) comes in
    let after : StreamingWorld = record w { device = after_receiving c.args.interface to w.device; host = after_host_packet c.args.interface w.host } in
    let mid : StreamingStands q c.arrive-arrival.new.device after =
    carried p c.args.device.now w here c.arrive-arrival.new.device c.packet-frames.new.self c.packet-frames.new.packet.items p.fetched_packet (after_receiving c.args.interface to w.device)
    (after_host_packet c.args.interface w.host) device (c.packet-frames.ensures.stands w.host here.host) refl refl in
    subst (λ (a : Arrival). StreamingStands c.count_arrival.new.self c.arrive-arrival.new.device (record after { met = counted_at c.args.interface (after_arrival a) after.met })) arrival
    (c.count_arrival.ensures.stands c.arrive-arrival.new.device after mid (sym (c.function.ensures ∙ device.function)))
