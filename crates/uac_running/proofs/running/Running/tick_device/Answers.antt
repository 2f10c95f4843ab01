use Rattle.std.proofs.Common.{◌≡◌, ◌∙◌, ◌+◌, ap, sym, subst, refl, true, zero-add}
use Rattle.uac_device.specs.DeviceKept as device
use Rattle.uac_device.specs.DeviceWorld.{renders_of}
use Rattle.uac_units.specs.MeterReadings.{readings}
use Rattle.uac_running.specs.Events.{after_one, jacks_after_frame}
use Rattle.uac_running.specs.RunningKept.{RunningFields, RunningStands}
use Rattle.uac_device.proofs.ListChangeLemmas.{turned_back}
use Rattle.uac_running.proofs.RunningKeptLemmas.{domains_kept}
use Rattle.uac_running.proofs.RunningKeptJackLemmas.{jacks_gone_on}
use Rattle.uac_running.proofs.SilenceLemmas.{rests_after}
use Rattle.uac_running.proofs.EventsLemmas.{gave, device_ticked, device_ticked_found, view_still}
use Rattle.uac_running.proofs.StillnessLemmas.{still_gave}
use Rattle.uac_running.specs.contracts.running.Running.{the_view}
use Rattle.uac_running.proofs.running.Running.tick_device.Goals as goal

pub invariant_of-self : goal.invariant_of-self
invariant_of-self g c =
    let jacks = turned_back (after_one c.args.domain) c.self.inside.jacks.len c.self.inside.jacks.items c.deref_mut.result.now c.next_frames.new.jacks
    c.next_frames.ensures.jacks c.deref_mut.ensures.value c.deref_mut.ensures.len in
    let function = c.tick_where-found.ensures.function ∙ c.next_frames.ensures.function in (
      jacks_gone_on c.args.domain (the_view c.self.inside) _ function jacks c.self.invariant.0,
      domains_kept (the_view c.self.inside) _ function refl c.self.invariant.1,
      view_still c.self.inside.device.function _ c.self.inside.view function c.self.invariant.2,
    )

pub returns-clause-stands : goal.returns-clause-stands
returns-clause-stands g c r stands rests stills =
    let shown = readings (λ v x. (goal.Meter-dyn g (v, x)).reading_of x) c.args.meters.now in
    let showing = readings (λ v x. (goal.Meter-dyn g (v, x)).reading_of x) c.tick_where-found.new.meters in
    let jacks = turned_back (after_one c.args.domain) c.self.inside.jacks.len c.self.inside.jacks.items c.deref_mut.result.now c.next_frames.new.jacks
    c.next_frames.ensures.jacks c.deref_mut.ensures.value c.deref_mut.ensures.len in
    let own = subst (λ (p : RunningFields). RunningStands p shown r) (sym c.self.view_is) stands in
    let still = λ (is : c.args.rest.device_streams ≡ true). still_gave c.args.domain shown r (the_view c.self.inside) own c.self.invariant.0 (stills is) in
    let w = gave c.args.domain r in
    let rendered : device.DeviceStands c.next_frames.new.device w → c.count.result ≡ renders_of c.args.domain w =
    λ kept. c.count.ensures ∙ c.tick_where-found.ensures.once w kept ∙ ap (λ n. n + renders_of c.args.domain w) c.new-steps.ensures ∙ zero-add (renders_of c.args.domain w) in
    device_ticked c.args.rest.jacks c.args.domain c.count.result shown showing r (the_view c.self.inside) _ c.deref_mut.result.now c.next_frames.new.device c.tick_where-found.result c.function-2.result.now own rests c.deref_mut.ensures.value
    c.function-2.ensures c.next_frames.ensures.stands (λ kept. c.tick_where-found.ensures.stands w kept still) (λ kept. c.tick_where-found.ensures.heard w kept still) rendered
    (λ kept. c.tick_where-found.ensures.met w kept still)
    (λ v before. c.count_met.ensures c.tick_where-found.new.self v before c.args.domain)
    (jacks ∙ ap (jacks_after_frame c.args.domain) (sym c.deref_mut.ensures.value)) refl refl refl c.saturating_add-self-inside.ensures (record { view = refl; configuration = refl; breaks = refl })

pub returns-clause-found : goal.returns-clause-found
returns-clause-found g c r stands rests stills =
    let shown = readings (λ v x. (goal.Meter-dyn g (v, x)).reading_of x) c.args.meters.now in
    let own = subst (λ (p : RunningFields). RunningStands p shown r) (sym c.self.view_is) stands in
    let still = λ (is : c.args.rest.device_streams ≡ true). still_gave c.args.domain shown r (the_view c.self.inside) own c.self.invariant.0 (stills is) in
    device_ticked_found c.args.rest.jacks c.args.domain shown r (the_view c.self.inside) c.deref_mut.result.now c.next_frames.new.device c.tick_where-found.result own rests c.deref_mut.ensures.value
    c.next_frames.ensures.stands (λ kept. c.tick_where-found.ensures.met (gave c.args.domain r) kept still)

pub returns-clause-rests : goal.returns-clause-rests
returns-clause-rests g c meters r stands quiet =
    let own = subst (λ (p : RunningFields). RunningStands p meters r) (sym c.self.view_is) stands in
    rests_after c.args.domain meters r (the_view c.self.inside) own c.self.invariant.0 quiet
