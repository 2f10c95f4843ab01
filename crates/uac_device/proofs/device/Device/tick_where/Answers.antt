use Rattle.std.proofs.Common.{◌∙◌, ◌+◌, ◌<◌, ◌^◌, ap, length, subst, sym, ℕ, List}
use Rattle.std.specs.List.{All}
use Rattle.uac_entities.specs.declared.entity.Entity.{Entity}
use Rattle.uac_graph.specs.GraphControls.{controls_in}
use Rattle.uac_graph.specs.Jobs.{AreJobs}
use Rattle.uac_graph.specs.Needs.{depends_on, needed_units}
use Rattle.uac_graph.specs.Wiring.{AreRendered, AreWiresOf, samples_on}
use Rattle.uac_graph.proofs.NeedsEndLemmas.{output_terminals}
use Rattle.uac_graph.proofs.FitnessLemmas.{sound_graph}
use Rattle.uac_units.specs.MeterReadings.{readings}
use Rattle.uac_device.specs.DeviceWorld.{after_frames, after_tick}
use Rattle.uac_device.specs.DeviceKept.{DeviceFields, DeviceStands}
use Rattle.uac_device.specs.DeviceStreams.{IsWiredOut}
use Rattle.uac_device.specs.DeviceTurns.{frames_heard}
use Rattle.uac_device.specs.contracts.device.Device.{the_view}
use Rattle.uac_device.proofs.LinkedLemmas.{linked}
use Rattle.uac_device.proofs.DeviceWorldLemmas.{Rendered, heard_in, renders_here}
use Rattle.uac_device.proofs.DeviceKeptStreamLemmas.{ports_wired_in, ports_wired_out}
use Rattle.uac_device.proofs.StillnessLemmas.{found_or_still, ticked_or_still}
use Rattle.uac_device.proofs.DeviceKeptTickLemmas.{device_with_wires, streams_few, wires_kept}
use Rattle.uac_device.proofs.device.Device.tick_where.Goals as goal

pub begin_unless-met-requires : goal.begin_unless-met-requires
begin_unless-met-requires g c = record {
  few = streams_few (the_view c.self.inside) c.self.invariant.0 (c.sound_functions_are_small.ensures c.self.inside.function c.functions_are_sound.ensures).1;
  wired = ports_wired_in (the_view c.self.inside) c.self.inside.wires (linked c.self.inside.function c.functions_are_sound.ensures) c.self.invariant.0.wires c.self.invariant.0;
}

pub tick_by-requires-clause-wires : goal.tick_by-requires-clause-wires
tick_by-requires-clause-wires g c =
    subst (λ (graph : List Entity). AreWiresOf graph c.begin_unless-met.new.wires) (sym c.self.invariant.1)
    (wires_kept c.self.inside.function.entities c.self.inside.wires c.begin_unless-met.new.wires c.self.invariant.0.wires c.begin_unless-met.ensures.lengths)

pub tick_by-requires-clause-jobs : goal.tick_by-requires-clause-jobs
tick_by-requires-clause-jobs g c = (
  controls_in c.self.inside.store,
  subst (λ (graph : List Entity). AreJobs graph (controls_in c.self.inside.store) c.self.inside.derived.jobs) (sym c.self.invariant.1) c.self.invariant.2.asked,
)

pub tick_by-requires-clause-room : goal.tick_by-requires-clause-room
tick_by-requires-clause-room g c =
    subst (λ (graph : List Entity). c.args.steps.now + length (needed_units graph c.args.domain) < 2 ^ 64) (sym c.self.invariant.1)
    (subst (λ (device : DeviceFields). c.args.steps.now + length (needed_units device.function.entities c.args.domain) < 2 ^ 64) (sym c.self.view_is) c.requires.room)

pub put_unless-requires : goal.put_unless-requires
put_unless-requires g c =
    subst (All (IsWiredOut c.tick_by.new.wires)) (sym c.begin_unless-met.ensures.ports)
    (ports_wired_out (the_view c.self.inside) c.tick_by.new.wires (linked c.self.inside.function c.functions_are_sound.ensures)
    (subst (λ (graph : List Entity). AreWiresOf graph c.tick_by.new.wires) c.self.invariant.1 c.tick_by.ensures.fitting) c.self.invariant.0)

pub invariant_of-self : goal.invariant_of-self
invariant_of-self g c = (
  device_with_wires (the_view c.self.inside) c.tick_by.new.wires c.put_unless.new.device_streams c.self.invariant.0
      (subst (λ (graph : List Entity). AreWiresOf graph c.tick_by.new.wires) c.self.invariant.1 c.tick_by.ensures.fitting) (c.put_unless.ensures.ports ∙ c.begin_unless-met.ensures.ports),
  c.self.invariant.1,
  c.self.invariant.2,
  c.self.invariant.3,
  c.self.invariant.4,
)

pub returns-clause-stands : goal.returns-clause-stands
returns-clause-stands g c w stands still =
    let sound = c.functions_are_sound.ensures in
    let here = subst (λ (device : DeviceFields). DeviceStands device w) (sym c.self.view_is) stands in
    let mid = c.begin_unless-met.new.wires in
    let rendered : Rendered (the_view c.self.inside) mid c.tick_by.new.wires c.args.domain =
    record {
      sound = sound_graph c.self.inside.function sound;
      ends = output_terminals c.self.inside.function sound c.args.domain;
      rendered =
          subst (λ (graph : List Entity). AreRendered graph (controls_in c.self.inside.store) (samples_on mid) (depends_on graph c.args.domain) mid c.tick_by.new.wires)
          c.self.invariant.1
          (c.tick_by.ensures.rendered (controls_in c.self.inside.store)
          (subst (λ (graph : List Entity). AreJobs graph (controls_in c.self.inside.store) c.self.inside.derived.jobs) (sym c.self.invariant.1) c.self.invariant.2.asked));
    } in
    ticked_or_still c.args.still (the_view c.self.inside) mid c.tick_by.new.wires c.begin_unless-met.new.device_streams c.put_unless.new.device_streams c.args.domain w c.begin_unless-met.result
    (c.interfaces_are_numbered.ensures c.self.inside.function sound) (linked c.self.inside.function sound)
    (c.entities_have_channels.ensures c.self.inside.function sound) c.self.invariant.0 rendered c.begin_unless-met.ensures.ports
    c.begin_unless-met.ensures.begun c.begin_unless-met.ensures.rests c.put_unless.ensures.ended c.put_unless.ensures.rests still here

pub returns-clause-heard : goal.returns-clause-heard
returns-clause-heard g c w stands still =
    let sound = c.functions_are_sound.ensures in
    let here = subst (λ (device : DeviceFields). DeviceStands device w) (sym c.self.view_is) stands in
    let mid = c.begin_unless-met.new.wires in
    let rendered : Rendered (the_view c.self.inside) mid c.tick_by.new.wires c.args.domain =
    record {
      sound = sound_graph c.self.inside.function sound;
      ends = output_terminals c.self.inside.function sound c.args.domain;
      rendered =
          subst (λ (graph : List Entity). AreRendered graph (controls_in c.self.inside.store) (samples_on mid) (depends_on graph c.args.domain) mid c.tick_by.new.wires)
          c.self.invariant.1
          (c.tick_by.ensures.rendered (controls_in c.self.inside.store)
          (subst (λ (graph : List Entity). AreJobs graph (controls_in c.self.inside.store) c.self.inside.derived.jobs) (sym c.self.invariant.1) c.self.invariant.2.asked));
    } in
    let after = ticked_or_still c.args.still (the_view c.self.inside) mid c.tick_by.new.wires c.begin_unless-met.new.device_streams c.put_unless.new.device_streams c.args.domain w c.begin_unless-met.result
    (c.interfaces_are_numbered.ensures c.self.inside.function sound) (linked c.self.inside.function sound)
    (c.entities_have_channels.ensures c.self.inside.function sound) c.self.invariant.0 rendered c.begin_unless-met.ensures.ports
    c.begin_unless-met.ensures.begun c.begin_unless-met.ensures.rests c.put_unless.ensures.ended c.put_unless.ensures.rests still here in
    c.hear.ensures
    ∙ ap (λ jacks. after_frames (frames_heard c.tick_by.new.wires c.args.domain jacks) (readings (λ v x. (goal.Meter-dyn g (v, x)).reading_of x) c.args.meters.now))
    (c.jacks.ensures ∙ c.self.invariant.2.heard)
    ∙ ap (λ frames. after_frames frames (readings (λ v x. (goal.Meter-dyn g (v, x)).reading_of x) c.args.meters.now))
    (heard_in (record (the_view c.self.inside) { wires = c.tick_by.new.wires; device_streams = c.put_unless.new.device_streams }) c.args.domain (after_tick c.args.domain w) (sound_graph c.self.inside.function sound) after)

pub returns-clause-met : goal.returns-clause-met
returns-clause-met g c w stands still =
    let here = subst (λ (device : DeviceFields). DeviceStands device w) (sym c.self.view_is) stands in
    found_or_still c.args.still (the_view c.self.inside) c.begin_unless-met.new.wires c.begin_unless-met.new.device_streams c.args.domain w c.begin_unless-met.result
    (c.interfaces_are_numbered.ensures c.self.inside.function c.functions_are_sound.ensures) c.self.invariant.0
    c.begin_unless-met.ensures.begun c.begin_unless-met.ensures.rests still here

pub returns-clause-once : goal.returns-clause-once
returns-clause-once g c w stands =
    let here = subst (λ (device : DeviceFields). DeviceStands device w) (sym c.self.view_is) stands in
    c.tick_by.ensures.once
    ∙ ap (λ (graph : List Entity). c.args.steps.now + length (needed_units graph c.args.domain)) c.self.invariant.1
    ∙ ap (λ (n : ℕ). c.args.steps.now + n) (renders_here (the_view c.self.inside) w c.args.domain here)
