-- The host stream of the interface is the world's, and no other changes.
use Rattle.std.proofs.Common.{◌≡◌, ◌∙◌, ℕ, None, Some, ap}
use Rattle.uac_host.specs.HostCalls.{after_host_packet, packet_of, size_of}
use Rattle.uac_host.specs.HostKept.{kept_stream}
use Rattle.uac_host.proofs.HostKeptCallLemmas.{kept_at, left_alone, no_stream, packet_turns, host_stream_index, put_back, unsent}
use Rattle.uac_host.proofs.host.Host.packet.Goals as goal

pub returns-in-Some-clause-size : goal.returns-in-Some-clause-size
returns-in-Some-clause-size c w stands =
    let host_streams = c.self.inside.host_streams.items in
    let now = c.args.self.now in
    let old = c.index_mut.result.now in
    let is : Some c.in-Some.index ≡ host_stream_index c.args.interface host_streams = cc (c.in-Some.ensures, c.self.view_is) in
    let read = kept_at now host_streams w c.args.interface c.in-Some.index old c.self.view_is stands is c.index_mut.ensures.value in
    c.send_out.ensures.size w read.0 ∙ ap (size_of w) read.1

pub returns-in-Some-clause-packet : goal.returns-in-Some-clause-packet
returns-in-Some-clause-packet c w stands =
    let host_streams = c.self.inside.host_streams.items in
    let now = c.args.self.now in
    let old = c.index_mut.result.now in
    let is : Some c.in-Some.index ≡ host_stream_index c.args.interface host_streams = cc (c.in-Some.ensures, c.self.view_is) in
    let read = kept_at now host_streams w c.args.interface c.in-Some.index old c.self.view_is stands is c.index_mut.ensures.value in
    c.send_out.ensures.packet w read.0 ∙ ap (packet_of w) read.1

pub returns-in-Some-clause-stands : goal.returns-in-Some-clause-stands
returns-in-Some-clause-stands c w stands =
    let host_streams = c.self.inside.host_streams.items in
    let now = c.args.self.now in
    let old = c.index_mut.result.now in
    let is : Some c.in-Some.index ≡ host_stream_index c.args.interface host_streams = cc (c.in-Some.ensures, c.self.view_is) in
    let read = kept_at now host_streams w c.args.interface c.in-Some.index old c.self.view_is stands is c.index_mut.ensures.value in
    put_back now host_streams w (after_host_packet c.args.interface w) c.args.interface c.in-Some.index old c.send_out.new.self c.self.view_is stands
    (packet_turns now w c.args.interface stands) is
    (c.send_out.ensures.stands w read.0 ∙ ap (λ (n : ℕ). kept_stream (after_host_packet n w) n) read.1)

pub returns-in-None-clause-size : goal.returns-in-None-clause-size
returns-in-None-clause-size c w stands =
    let host_streams = c.self.inside.host_streams.items in
    let is : None ≡ host_stream_index c.args.interface host_streams = cc (c.in-None.ensures, c.self.view_is) in
    (unsent w c.args.interface (no_stream host_streams c.args.self.now w c.args.interface c.self.view_is stands is)).0

pub returns-in-None-clause-packet : goal.returns-in-None-clause-packet
returns-in-None-clause-packet c w stands =
    let host_streams = c.self.inside.host_streams.items in
    let is : None ≡ host_stream_index c.args.interface host_streams = cc (c.in-None.ensures, c.self.view_is) in
    c.clear.ensures ∙ (unsent w c.args.interface (no_stream host_streams c.args.self.now w c.args.interface c.self.view_is stands is)).1

pub returns-in-None-clause-stands : goal.returns-in-None-clause-stands
returns-in-None-clause-stands c w stands =
    let host_streams = c.self.inside.host_streams.items in
    let is : None ≡ host_stream_index c.args.interface host_streams = cc (c.in-None.ensures, c.self.view_is) in
    left_alone c.args.self.now host_streams w (after_host_packet c.args.interface w) c.args.interface c.self.view_is stands (packet_turns c.args.self.now w c.args.interface stands) is
