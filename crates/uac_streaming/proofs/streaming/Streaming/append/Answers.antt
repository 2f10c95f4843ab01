use Rattle.std.proofs.Common.{refl, sym, subst}
use Rattle.uac_host.specs.HostCalls.{with_samples}
use Rattle.uac_streaming.specs.StreamingKept.{StreamingFields, StreamingStands}
use Rattle.uac_streaming.specs.contracts.streaming.Streaming.{the_view}
use Rattle.uac_streaming.proofs.StreamingKeptLemmas.{hosted, where_ok}
use Rattle.uac_streaming.proofs.streaming.Streaming.append.Goals as goal

pub returns-clause-stands : goal.returns-clause-stands
unfolding with_samples
returns-clause-stands c d w stands whole =
    let here = subst (λ (p : StreamingFields). StreamingStands p d w) (sym c.self.view_is) stands in
    where_ok c.append.result
    (λ of_host. hosted (the_view c.self.inside) d w here c.append.new.self (with_samples c.args.interface c.args.samples.now w.host) of_host refl)
    (c.append.ensures.stands w.host here.host whole)
