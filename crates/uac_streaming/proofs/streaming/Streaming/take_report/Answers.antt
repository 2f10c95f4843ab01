use Rattle.std.proofs.Common.{refl, sym, subst, Bool, if◌then◌else◌}
use Rattle.uac_host.specs.HostCalls.{with_report}
use Rattle.uac_streaming.specs.StreamingKept.{StreamingFields, StreamingStands}
use Rattle.uac_streaming.specs.contracts.streaming.Streaming.{the_view}
use Rattle.uac_streaming.proofs.StreamingKeptLemmas.{hosted}
use Rattle.uac_streaming.proofs.streaming.Streaming.take_report.Goals as goal

pub returns-then-lost-clause-stands : goal.returns-then-lost-clause-stands
returns-then-lost-clause-stands c d w stands =
    subst (λ (b : Bool). StreamingStands c.args.self.now d (record w { host = if b then w.host else with_report c.args.interface c.args.value w.host })) (sym c.if-lost.true) stands

pub returns-clause-stands : goal.returns-clause-stands
unfolding with_report
returns-clause-stands c d w stands =
    let p = the_view c.self.inside in
    let here = subst (λ (p : StreamingFields). StreamingStands p d w) (sym c.self.view_is) stands in
    let there =
    hosted p d w here c.take_report.new.self (with_report c.args.interface c.args.value w.host) (c.take_report.ensures.stands w.host here.host) refl in
    subst (λ (b : Bool). StreamingStands (record p { host = c.take_report.new.self }) d (record w { host = if b then w.host else with_report c.args.interface c.args.value w.host })) (sym c.if-lost.false) there
