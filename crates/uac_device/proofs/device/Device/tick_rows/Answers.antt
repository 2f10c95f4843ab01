use Rattle.std.proofs.Common.{◌≡◌, ◌∙◌, ◌+◌, ◌-◌, ◌*◌, ◌<◌, ap, arith, length, subst, sym, true, ℕ, List}
use Rattle.std.specs.List.{All}
use Rattle.uac_entities.specs.declared.entity.Entity.{Entity}
use Rattle.uac_graph.specs.GraphControls.{controls_in}
use Rattle.uac_graph.specs.Jobs.{AreJobs}
use Rattle.uac_graph.specs.Meaning.{entity}
use Rattle.uac_graph.specs.Needs.{depends_on, needed_units}
use Rattle.uac_graph.specs.TickRows.{AreRowsOf, frames_at}
use Rattle.uac_graph.specs.Wiring.{AreRendered, AreWiresOf, samples_on}
use Rattle.uac_graph.proofs.FitnessLemmas.{sound_graph}
use Rattle.uac_graph.proofs.NeedsEndLemmas.{output_terminals}
use Rattle.uac_units.specs.MeterReadings.{readings}
use Rattle.uac_device.specs.DeviceKept.{DeviceFields, DeviceStands}
use Rattle.uac_device.specs.DeviceStreams.{IsWiredOut}
use Rattle.uac_device.specs.DeviceTicks.{heard_by_ticks}
use Rattle.uac_device.specs.DeviceTurns.{frames_heard}
use Rattle.uac_device.specs.DeviceWorld.{is_input_jack}
use Rattle.uac_device.specs.contracts.device.Device.{the_view}
use Rattle.uac_device.proofs.DeviceKeptStreamLemmas.{ports_wired_in, ports_wired_out}
use Rattle.uac_device.proofs.DeviceKeptTickLemmas.{device_with_rows, device_with_wires}
use Rattle.uac_device.proofs.DeviceRowsLemmas.{RowsTurned, rows_kept, rows_hold, rows_read, rows_stand, tones_few, tones_wired}
use Rattle.uac_device.proofs.DeviceWorldLemmas.{renders_here}
use Rattle.uac_device.proofs.HeardRowsLemmas.{jacks_wired}
use Rattle.uac_device.proofs.HeldRowsLemmas.{rows_are_few}
use Rattle.uac_device.proofs.LinkedLemmas.{linked}
use Rattle.uac_device.proofs.device.Device.tick_rows.Goals as goal

pub give_tones-requires-clause-wired : goal.give_tones-requires-clause-wired
give_tones-requires-clause-wired g c =
    tones_wired c.self.inside.function.entities c.args.jacks.now (frames_at 0 c.hold_inputs.new.rows)
    (rows_kept c.self.inside.function.entities c.self.inside.rows c.hold_inputs.new.rows c.hold_inputs.ensures.lengths c.self.invariant.3 0)
    (subst (λ (device : DeviceFields). All (λ j. is_input_jack (entity device.function.entities j.terminal) ≡ true) c.args.jacks.now) (sym c.self.view_is) c.requires.kinds)
    (subst (λ (device : DeviceFields). All (λ j. (entity device.function.entities j.terminal).cluster.channels ≡ j.channels) c.args.jacks.now) (sym c.self.view_is)
    c.requires.channels)

pub give_tones-requires-clause-few : goal.give_tones-requires-clause-few
give_tones-requires-clause-few g c =
    tones_few c.self.inside.function.entities c.args.jacks.now (c.entities_have_channels.ensures c.self.inside.function c.functions_are_sound.ensures)
    (subst (λ (device : DeviceFields). All (λ j. is_input_jack (entity device.function.entities j.terminal) ≡ true) c.args.jacks.now) (sym c.self.view_is) c.requires.kinds)
    (subst (λ (device : DeviceFields). All (λ j. (entity device.function.entities j.terminal).cluster.channels ≡ j.channels) c.args.jacks.now) (sym c.self.view_is)
    c.requires.channels)

pub take_rows-requires-clause-wired : goal.take_rows-requires-clause-wired
take_rows-requires-clause-wired g c =
    ports_wired_in (the_view c.self.inside) (frames_at 0 c.give_tones.new.rows) (linked c.self.inside.function c.functions_are_sound.ensures)
    (rows_kept c.self.inside.function.entities c.self.inside.rows c.give_tones.new.rows (c.give_tones.ensures.lengths ∙ c.hold_inputs.ensures.lengths) c.self.invariant.3 0)
    c.self.invariant.0

pub ticks_by-requires-clause-wires : goal.ticks_by-requires-clause-wires
ticks_by-requires-clause-wires g c =
    subst (λ (graph : List Entity). AreRowsOf graph c.take_rows.new.rows) (sym c.self.invariant.1)
    (rows_kept c.self.inside.function.entities c.self.inside.rows c.take_rows.new.rows
    (c.take_rows.ensures.lengths ∙ c.give_tones.ensures.lengths ∙ c.hold_inputs.ensures.lengths) c.self.invariant.3)

pub put_rows-requires-clause-wired : goal.put_rows-requires-clause-wired
put_rows-requires-clause-wired g c =
    subst (All (IsWiredOut (frames_at 0 c.ticks_by.new.wires))) (sym c.take_rows.ensures.ports)
    (ports_wired_out (the_view c.self.inside) (frames_at 0 c.ticks_by.new.wires) (linked c.self.inside.function c.functions_are_sound.ensures)
    (subst (λ (graph : List Entity). AreWiresOf graph (frames_at 0 c.ticks_by.new.wires)) c.self.invariant.1 (c.ticks_by.ensures.fitting 0)) c.self.invariant.0)

pub hear_rows-requires-clause-few : goal.hear_rows-requires-clause-few
hear_rows-requires-clause-few g c =
    rows_are_few c.self.inside.function.entities c.ticks_by.new.wires 0 (sound_graph c.self.inside.function c.functions_are_sound.ensures)
    (subst (λ (graph : List Entity). AreRowsOf graph c.ticks_by.new.wires) c.self.invariant.1 c.ticks_by.ensures.fitting)

pub hear_rows-requires-clause-wired : goal.hear_rows-requires-clause-wired
hear_rows-requires-clause-wired g c =
    jacks_wired c.self.inside.function.entities c.ticks_by.new.wires c.jacks.result.now (sound_graph c.self.inside.function c.functions_are_sound.ensures)
    (subst (λ (graph : List Entity). AreRowsOf graph c.ticks_by.new.wires) c.self.invariant.1 c.ticks_by.ensures.fitting) (c.jacks.ensures ∙ c.self.invariant.2.heard)

pub keep_frames-requires-clause-rows : goal.keep_frames-requires-clause-rows
keep_frames-requires-clause-rows g c = subst (λ (graph : List Entity). AreRowsOf graph c.ticks_by.new.wires) c.self.invariant.1 c.ticks_by.ensures.fitting

pub invariant_of-self : goal.invariant_of-self
invariant_of-self g c =
    let device : DeviceFields = the_view c.self.inside in (
      device_with_rows (record device { wires = c.keep_frames.new.wires; device_streams = c.put_rows.new.self }) c.ticks_by.new.wires
          (device_with_wires device c.keep_frames.new.wires c.put_rows.new.self c.self.invariant.0 c.keep_frames.ensures.fitting
          (c.put_rows.ensures.ports ∙ c.take_rows.ensures.ports)),
      c.self.invariant.1,
      c.self.invariant.2,
      subst (λ (graph : List Entity). AreRowsOf graph c.ticks_by.new.wires) c.self.invariant.1 c.ticks_by.ensures.fitting,
      c.ticks_by.ensures.room ∙ c.take_rows.ensures.room ∙ c.give_tones.ensures.room ∙ c.hold_inputs.ensures.room ∙ c.self.invariant.4,
    )

pub returns-clause-stands : goal.returns-clause-stands
returns-clause-stands g c w stands =
    let sound = c.functions_are_sound.ensures in
    let device : DeviceFields = the_view c.self.inside in
    let here = subst (λ (device : DeviceFields). DeviceStands device w) (sym c.self.view_is) stands in
    let kinds = subst (λ (device : DeviceFields). All (λ j. is_input_jack (entity device.function.entities j.terminal) ≡ true) c.args.jacks.now) (sym c.self.view_is) c.requires.kinds in
    let mid = c.take_rows.new.rows in
    let new = c.ticks_by.new.wires in
    let turned : RowsTurned device c.args.jacks.now c.args.domain c.args.ticks (c.args.ticks - 1) c.hold_inputs.new.rows c.give_tones.new.rows mid new c.keep_frames.new.wires
    c.take_rows.new.self c.put_rows.new.self =
    record {
      held = c.hold_inputs.ensures.held;
      toned = c.give_tones.ensures.frames;
      frames = c.take_rows.ensures.frames;
      taken = c.take_rows.ensures.stands;
      same = c.take_rows.ensures.ports;
      rendered = record {
        sound = sound_graph c.self.inside.function sound;
        ends = output_terminals c.self.inside.function sound c.args.domain;
        rendered =
            subst
            (λ (graph : List Entity). (t : ℕ) → t < c.args.ticks
            → AreRendered graph (controls_in c.self.inside.store) (samples_on (frames_at t mid)) (depends_on graph c.args.domain) (frames_at t mid) (frames_at t new))
            c.self.invariant.1
            (c.ticks_by.ensures.rendered (controls_in c.self.inside.store)
            (subst (λ (graph : List Entity). AreJobs graph (controls_in c.self.inside.store) c.self.inside.derived.jobs) (sym c.self.invariant.1) c.self.invariant.2.asked));
      };
      put = c.put_rows.ensures.stands;
      inputs = c.keep_frames.ensures.inputs;
      ends = c.keep_frames.ensures.ends;
      others = c.keep_frames.ensures.others;
    } in
    rows_stand device c.args.jacks.now w c.args.domain c.hold_inputs.new.rows c.give_tones.new.rows mid new c.keep_frames.new.wires c.take_rows.new.self c.put_rows.new.self
    (c.interfaces_are_numbered.ensures c.self.inside.function sound) (linked c.self.inside.function sound) (c.entities_have_channels.ensures c.self.inside.function sound)
    c.self.invariant.0 here kinds c.args.ticks (c.args.ticks - 1) (omega (arith, c.requires.some)) turned

pub returns-clause-played : goal.returns-clause-played
returns-clause-played g c w stands =
    let sound = c.functions_are_sound.ensures in
    let device : DeviceFields = the_view c.self.inside in
    let here = subst (λ (device : DeviceFields). DeviceStands device w) (sym c.self.view_is) stands in
    let kinds = subst (λ (device : DeviceFields). All (λ j. is_input_jack (entity device.function.entities j.terminal) ≡ true) c.args.jacks.now) (sym c.self.view_is) c.requires.kinds in
    let mid = c.take_rows.new.rows in
    let new = c.ticks_by.new.wires in
    let turned : RowsTurned device c.args.jacks.now c.args.domain c.args.ticks (c.args.ticks - 1) c.hold_inputs.new.rows c.give_tones.new.rows mid new c.keep_frames.new.wires
    c.take_rows.new.self c.put_rows.new.self =
    record {
      held = c.hold_inputs.ensures.held;
      toned = c.give_tones.ensures.frames;
      frames = c.take_rows.ensures.frames;
      taken = c.take_rows.ensures.stands;
      same = c.take_rows.ensures.ports;
      rendered = record {
        sound = sound_graph c.self.inside.function sound;
        ends = output_terminals c.self.inside.function sound c.args.domain;
        rendered =
            subst
            (λ (graph : List Entity). (t : ℕ) → t < c.args.ticks
            → AreRendered graph (controls_in c.self.inside.store) (samples_on (frames_at t mid)) (depends_on graph c.args.domain) (frames_at t mid) (frames_at t new))
            c.self.invariant.1
            (c.ticks_by.ensures.rendered (controls_in c.self.inside.store)
            (subst (λ (graph : List Entity). AreJobs graph (controls_in c.self.inside.store) c.self.inside.derived.jobs) (sym c.self.invariant.1) c.self.invariant.2.asked));
      };
      put = c.put_rows.ensures.stands;
      inputs = c.keep_frames.ensures.inputs;
      ends = c.keep_frames.ensures.ends;
      others = c.keep_frames.ensures.others;
    } in
    rows_hold device c.args.jacks.now w c.args.domain c.hold_inputs.new.rows c.give_tones.new.rows mid new c.keep_frames.new.wires c.take_rows.new.self c.put_rows.new.self
    (c.interfaces_are_numbered.ensures c.self.inside.function sound) (linked c.self.inside.function sound) (c.entities_have_channels.ensures c.self.inside.function sound)
    c.self.invariant.0 here kinds c.args.ticks (c.args.ticks - 1) (omega (arith, c.requires.some)) turned

pub returns-clause-once : goal.returns-clause-once
returns-clause-once g c w stands =
    let here = subst (λ (device : DeviceFields). DeviceStands device w) (sym c.self.view_is) stands in
    c.ticks_by.ensures.once
    ∙ ap (λ (graph : List Entity). c.args.steps.now + c.args.ticks * length (needed_units graph c.args.domain)) c.self.invariant.1
    ∙ ap (λ (n : ℕ). c.args.steps.now + c.args.ticks * n) (renders_here (the_view c.self.inside) w c.args.domain here)

pub returns-clause-heard : goal.returns-clause-heard
returns-clause-heard g c w stands =
    let sound = c.functions_are_sound.ensures in
    let device : DeviceFields = the_view c.self.inside in
    let here = subst (λ (device : DeviceFields). DeviceStands device w) (sym c.self.view_is) stands in
    let kinds = subst (λ (device : DeviceFields). All (λ j. is_input_jack (entity device.function.entities j.terminal) ≡ true) c.args.jacks.now) (sym c.self.view_is) c.requires.kinds in
    let mid = c.take_rows.new.rows in
    let new = c.ticks_by.new.wires in
    let shown = readings (λ v x. (goal.Meter-dyn g (v, x)).reading_of x) c.args.meters.now in
    let turned : RowsTurned device c.args.jacks.now c.args.domain c.args.ticks (c.args.ticks - 1) c.hold_inputs.new.rows c.give_tones.new.rows mid new c.keep_frames.new.wires
    c.take_rows.new.self c.put_rows.new.self =
    record {
      held = c.hold_inputs.ensures.held;
      toned = c.give_tones.ensures.frames;
      frames = c.take_rows.ensures.frames;
      taken = c.take_rows.ensures.stands;
      same = c.take_rows.ensures.ports;
      rendered = record {
        sound = sound_graph c.self.inside.function sound;
        ends = output_terminals c.self.inside.function sound c.args.domain;
        rendered =
            subst
            (λ (graph : List Entity). (t : ℕ) → t < c.args.ticks
            → AreRendered graph (controls_in c.self.inside.store) (samples_on (frames_at t mid)) (depends_on graph c.args.domain) (frames_at t mid) (frames_at t new))
            c.self.invariant.1
            (c.ticks_by.ensures.rendered (controls_in c.self.inside.store)
            (subst (λ (graph : List Entity). AreJobs graph (controls_in c.self.inside.store) c.self.inside.derived.jobs) (sym c.self.invariant.1) c.self.invariant.2.asked));
      };
      put = c.put_rows.ensures.stands;
      inputs = c.keep_frames.ensures.inputs;
      ends = c.keep_frames.ensures.ends;
      others = c.keep_frames.ensures.others;
    } in
    c.hear_rows.ensures
    ∙ ap (λ jacks. heard_by_ticks (λ t. frames_heard (frames_at t new) c.args.domain jacks) c.args.ticks shown) (c.jacks.ensures ∙ c.self.invariant.2.heard)
    ∙ rows_read device c.args.jacks.now w c.args.domain c.hold_inputs.new.rows c.give_tones.new.rows mid new c.keep_frames.new.wires c.take_rows.new.self c.put_rows.new.self
    (c.interfaces_are_numbered.ensures c.self.inside.function sound) (linked c.self.inside.function sound) (c.entities_have_channels.ensures c.self.inside.function sound)
    c.self.invariant.0 here kinds c.args.ticks (c.args.ticks - 1) shown (omega (arith, c.requires.some)) turned
