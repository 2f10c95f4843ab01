use Rattle.std.proofs.Common.{◌≡◌, ◌∙◌, sym, ap, subst, map, List, ℕ}
use Rattle.uac_script.specs.Line.{phrase_mark}
use Rattle.uac_transcript.specs.Printing.{Prints}
use Rattle.uac_host.specs.HostCalls.{heard_in}
use Rattle.uac_streaming.specs.StreamingWorld.{in_lines, inward_turn, packet_fetched}
use Rattle.uac_streaming.specs.StreamingKept.{StreamingFields, StreamingStands}
use Rattle.uac_streaming.specs.contracts.streaming.Streaming.{the_view}
use Rattle.uac_streaming.proofs.StreamingWorldLemmas.{in_rests, in_told, rests}
use Rattle.uac_streaming.proofs.streaming.Streaming.in_packet.Goals as goal

pub returns-then-not-due-clause-tells : goal.returns-then-not-due-clause-tells
returns-then-not-due-clause-tells g c = λ w stands.
    let marks = map phrase_mark c.args.marks.now in
    rests (inward_turn c.args.detail marks c.args.interface w) c.args.self.now c.args.device.now (g.K.Sink.written c.args.sink.now) w
    (in_rests c.args.detail c.args.interface marks w c.due.result (c.due.ensures w.device stands.device) c.if-not-due.true) stands

pub returns-clause-tells : goal.returns-clause-tells
returns-clause-tells g c = λ w stands.
    let marks = map phrase_mark c.args.marks.now in
    let q = the_view c.self.inside in
    let here = subst (λ (p : StreamingFields). StreamingStands p c.fetch-frames.new.device (packet_fetched c.loses_in-lost.result c.args.interface w)) (sym c.self.view_is) (c.fetch-frames.ensures.stands w stands) in
    let packet = ap (λ (p : StreamingFields). p.fetched_packet) c.self.view_is ∙ c.fetch-frames.ensures.packet w stands in
    let same : c.deref.result.now.items ≡ q.fetched_packet = ap (λ packet. packet.items) c.deref.ensures in
    in_told c.args.detail c.args.interface marks w c.due.result (c.due.ensures w.device stands.device) q c.fetch-frames.new.device
    (g.K.Sink.written c.args.sink.now) (g.K.Sink.written c.write_fetched.new.sink) c.write_fetched.result c.fetch-frames.result c.loses_in-lost.result
    c.if-not-due.false c.loses_in-lost.ensures (c.fetch-frames.ensures.frames w stands) packet here
    (λ h heard. subst (λ (items : List ℕ). Prints (g.K.Sink.written c.args.sink.now) (g.K.Sink.written c.write_fetched.new.sink) c.write_fetched.result
    (in_lines c.args.detail c.loses_in-lost.result c.args.interface c.fetch-frames.result (heard_in h c.args.interface items))) same (c.write_fetched.ensures.printed h heard))
