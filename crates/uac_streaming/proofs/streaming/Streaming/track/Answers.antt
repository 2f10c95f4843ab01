use Rattle.std.proofs.Common.{refl, sym, subst}
use Rattle.uac_host.specs.HostCalls.{with_track_tone}
use Rattle.uac_streaming.specs.StreamingKept.{StreamingFields, StreamingStands}
use Rattle.uac_streaming.specs.contracts.streaming.Streaming.{the_view}
use Rattle.uac_streaming.proofs.StreamingKeptLemmas.{hosted}
use Rattle.uac_streaming.proofs.streaming.Streaming.track.Goals as goal

pub returns : goal.returns
unfolding with_track_tone
returns c d w stands =
    let here = subst (λ (p : StreamingFields). StreamingStands p d w) (sym c.self.view_is) stands in
    hosted (the_view c.self.inside) d w here c.track.new.self (with_track_tone c.args.interface c.args.tone w.host) (c.track.ensures.stands w.host here.host) refl
