use Rattle.std.proofs.Common.{◌∙◌, ap, sym, subst, refl}
use Rattle.uac_running.specs.RunningKept.{RunningFields, RunningStands}
use Rattle.uac_running.specs.TickCounts.{more_counted}
use Rattle.uac_device.proofs.ListChangeLemmas.{turned_back}
use Rattle.uac_running.proofs.RunningKeptLemmas.{clocks_of, clocks-more, domains_kept}
use Rattle.uac_running.proofs.RunningKeptJackLemmas.{jacks_kept}
use Rattle.uac_running.proofs.EventsLemmas.{advanced_over, view_still}
use Rattle.uac_running.specs.contracts.running.Running.{the_view}
use Rattle.uac_running.proofs.running.Running.advance_over.Goals as goal

pub invariant_of-self : goal.invariant_of-self
invariant_of-self c =
    let more = more_counted c.args.domain c.ticks_over-ticks.result in
    let counts = turned_back more c.self.inside.counts.len c.self.inside.counts.items c.deref_mut.result.now c.count_ticks.new.counts
    c.count_ticks.ensures c.deref_mut.ensures.value c.deref_mut.ensures.len in (
      jacks_kept (the_view c.self.inside) _ c.ticks_over-ticks.ensures.function refl c.self.invariant.0,
      domains_kept (the_view c.self.inside) _ c.ticks_over-ticks.ensures.function (ap clocks_of counts ∙ clocks-more c.args.domain c.ticks_over-ticks.result c.self.inside.counts.items) c.self.invariant.1,
      view_still c.self.inside.device.function _ c.self.inside.view c.ticks_over-ticks.ensures.function c.self.invariant.2,
    )

pub returns-clause-stands : goal.returns-clause-stands
returns-clause-stands c meters r stands =
    let more = more_counted c.args.domain c.ticks_over-ticks.result in
    let counts = turned_back more c.self.inside.counts.len c.self.inside.counts.items c.deref_mut.result.now c.count_ticks.new.counts
    c.count_ticks.ensures c.deref_mut.ensures.value c.deref_mut.ensures.len in
    let own = subst (λ (p : RunningFields). RunningStands p meters r) (sym c.self.view_is) stands in
    advanced_over meters r (the_view c.self.inside) _ own c.args.domain c.args.count c.ticks_over-ticks.result (c.ticks_over-ticks.ensures.stands r.device own.streaming.device)
    (c.ticks_over-ticks.ensures.ticks r.device own.streaming.device) c.self.invariant.1.once refl counts refl refl refl refl (record { view = refl; configuration = refl; breaks = refl })
