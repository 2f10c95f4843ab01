use Rattle.std.proofs.Common.{◌∙◌, refl, sym, subst, true, false, IfSome}
use Rattle.std.specs.Option.{option_map}
use Rattle.uac_topology.specs.Function.{FunctionFields}
use Rattle.uac_alt.specs.AltStreams.{stream_fields}
use Rattle.uac_host.specs.HostCalls.{IsStreamOf, with_stream}
use Rattle.uac_streaming.specs.StreamingKept.{StreamingFields, StreamingStands}
use Rattle.uac_streaming.specs.contracts.streaming.Streaming.{the_view}
use Rattle.uac_streaming.proofs.StreamingKeptHostLemmas.{followed_so, seen_some}
use Rattle.uac_streaming.proofs.StreamingKeptLemmas.{hosted}
use Rattle.uac_streaming.proofs.streaming.Streaming.set_stream.Goals as goal

pub returns-then-is_some : goal.returns-then-is_some
unfolding with_stream
returns-then-is_some c d w stands same =
    let begun = option_map stream_fields c.args.begun in
    let here = subst (λ (p : StreamingFields). StreamingStands p d w) (sym c.self.view_is) stands in
    let own = subst (λ (f : FunctionFields). IfSome c.args.begun (λ s. IsStreamOf f c.args.interface (stream_fields s))) (sym (stands.same ∙ same)) c.requires.begun in
    let mid =
    hosted (the_view c.self.inside) d w here c.set_stream.new.self (with_stream c.args.interface begun w.host) (c.set_stream.ensures.stands w.host here.host own) refl in
    followed_so c.start_feedback.new.self d w c.args.interface begun true (seen_some c.args.begun ∙ sym c.is_some.ensures ∙ c.if-is_some.true)
    (c.start_feedback.ensures d (record w { host = with_stream c.args.interface begun w.host }) mid same)

pub returns-else-is_some : goal.returns-else-is_some
unfolding with_stream
returns-else-is_some c d w stands same =
    let begun = option_map stream_fields c.args.begun in
    let here = subst (λ (p : StreamingFields). StreamingStands p d w) (sym c.self.view_is) stands in
    let own = subst (λ (f : FunctionFields). IfSome c.args.begun (λ s. IsStreamOf f c.args.interface (stream_fields s))) (sym (stands.same ∙ same)) c.requires.begun in
    let mid =
    hosted (the_view c.self.inside) d w here c.set_stream.new.self (with_stream c.args.interface begun w.host) (c.set_stream.ensures.stands w.host here.host own) refl in
    followed_so _ d w c.args.interface begun false (seen_some c.args.begun ∙ sym c.is_some.ensures ∙ c.if-is_some.false) mid
