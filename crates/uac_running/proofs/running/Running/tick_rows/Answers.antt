use Rattle.std.proofs.Common.{◌≡◌, ◌∙◌, ℕ, ◌+◌, ◌*◌, ◌^◌, ◌<◌, ap, arith, length, sym, subst, refl, zero-add, List}
use Rattle.uac_topology.specs.Function.{FunctionFields}
use Rattle.uac_graph.specs.Needs.{needed_units}
use Rattle.uac_units.specs.MeterReadings.{readings}
use Rattle.uac_device.specs.DeviceWorld.{renders_of}
use Rattle.uac_device.specs.declared.jacks.Jack.{Jack}
use Rattle.uac_device.specs.DeviceTicks.{HoldPlayed}
use Rattle.uac_device.specs.Jacks.{jack_after, tones_of}
use Rattle.uac_device.proofs.ListChangeLemmas.{turned_back}
use Rattle.uac_running.specs.EventTicks.{jacks_after}
use Rattle.uac_running.specs.RunningKept.{RunningFields, RunningStands}
use Rattle.uac_running.specs.contracts.running.Running.{the_view}
use Rattle.uac_running.proofs.EventTicksLemmas.{jacks_each}
use Rattle.uac_running.proofs.EventRowsLemmas.{jacks_many, rows_ticked}
use Rattle.uac_running.proofs.EventsLemmas.{view_still}
use Rattle.uac_running.proofs.RunningKeptLemmas.{domains_kept}
use Rattle.uac_running.proofs.running.Running.tick_rows.Goals as goal

from_none : (steps more : ℕ) → steps ≡ 0 → more < 2 ^ 64 → steps + more < 2 ^ 64
from_none steps more none few = omega (arith, none, few)

pub tick_rows-requires-clause-room : goal.tick_rows-requires-clause-room
tick_rows-requires-clause-room g c =
    from_none c.new-steps.result (c.args.count * length (needed_units c.self.inside.device.function.entities c.args.domain)) c.new-steps.ensures
    (subst (λ (f : FunctionFields). c.args.count * length (needed_units f.entities c.args.domain) < 2 ^ 64) c.function.ensures
    (c.fresh_steps_have_room_for_ticks.ensures c.args.domain c.args.count c.requires.most))

pub invariant_of-self : goal.invariant_of-self
invariant_of-self g c =
    let jacks = turned_back (jack_after c.args.domain c.args.count) c.self.inside.jacks.len c.self.inside.jacks.items c.deref_mut.result.now c.pass_frames.new.jacks
    (c.pass_frames.ensures ∙ jacks_each c.args.domain c.args.count c.deref_mut.result.now) c.deref_mut.ensures.value c.deref_mut.ensures.len
    ∙ sym (jacks_each c.args.domain c.args.count c.self.inside.jacks.items) in (
      jacks_many c.args.domain c.args.count (the_view c.self.inside) _ c.tick_rows.ensures.function jacks c.self.invariant.0,
      domains_kept (the_view c.self.inside) _ c.tick_rows.ensures.function refl c.self.invariant.1,
      view_still c.self.inside.device.function _ c.self.inside.view c.tick_rows.ensures.function c.self.invariant.2,
    )

pub returns-clause-stands : goal.returns-clause-stands
returns-clause-stands g c r stands unmet =
    let shown = readings (λ v x. (goal.Meter-dyn g (v, x)).reading_of x) c.args.meters.now in
    let showing = readings (λ v x. (goal.Meter-dyn g (v, x)).reading_of x) c.tick_rows.new.meters in
    let jacks = turned_back (jack_after c.args.domain c.args.count) c.self.inside.jacks.len c.self.inside.jacks.items c.deref_mut.result.now c.pass_frames.new.jacks
    (c.pass_frames.ensures ∙ jacks_each c.args.domain c.args.count c.deref_mut.result.now) c.deref_mut.ensures.value c.deref_mut.ensures.len
    ∙ sym (jacks_each c.args.domain c.args.count c.self.inside.jacks.items) in
    let own = subst (λ (p : RunningFields). RunningStands p shown r) (sym c.self.view_is) stands in
    rows_ticked c.args.domain c.args.count c.count.result shown showing r (the_view c.self.inside) _ c.deref.result.now own c.deref.ensures.value c.requires.some unmet
    c.tick_rows.ensures.stands
    (λ w kept.
    c.count.ensures ∙ c.tick_rows.ensures.once w kept
    ∙ ap (λ n. n + c.args.count * renders_of c.args.domain w) c.new-steps.ensures
    ∙ zero-add (c.args.count * renders_of c.args.domain w))
    c.tick_rows.ensures.heard refl (jacks ∙ ap (jacks_after c.args.domain c.args.count) (sym c.deref.ensures.value)) refl refl refl
    c.saturating_add-self-inside.ensures (record { view = refl; configuration = refl; breaks = refl })

pub returns-clause-played : goal.returns-clause-played
returns-clause-played g c r stands =
    let shown = readings (λ v x. (goal.Meter-dyn g (v, x)).reading_of x) c.args.meters.now in
    let own = subst (λ (p : RunningFields). RunningStands p shown r) (sym c.self.view_is) stands in
    subst (λ (jacks : List Jack). HoldPlayed c.args.domain (tones_of c.args.domain jacks) c.args.count r.device c.tick_rows.new.self.rows)
    (c.deref.ensures.value ∙ own.jacks) (c.tick_rows.ensures.played r.device own.streaming.device)
