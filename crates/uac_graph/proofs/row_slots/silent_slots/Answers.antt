use Rattle.std.proofs.Common.{◌≡◌, ◌∙◌, ◌<◌, ap, sym, subst, arith, length, map, set, refl, eqb, if◌then◌else◌, ℕ, List, Option, Some, None, Vec, Global}
use Rattle.std.specs.Option.{option_map}
use Rattle.std.proofs.lemmas.List.{length-map, length-set, length-replicate, map-set}
use Rattle.uac_entities.specs.declared.entity.Entity.{Entity}
use Rattle.uac_topology_rules.specs.Links.{is_clock}
use Rattle.uac_topology_rules.proofs.TableIdLemmas.{at_read}
use Rattle.uac_units.specs.declared.row.Row.{Row}
use Rattle.uac_units.specs.SampleRows.{HaveTicks, frame_at}
use Rattle.uac_graph.specs.TickRows.{RowSlots, SlotsHaveTicks, slot_frames}
use Rattle.uac_graph.specs.Wiring.{Frames, frame_on, silence}
use Rattle.uac_graph.proofs.WiringLemmas.{AreSilentBelow, silent_all, silent_clock, silent_none, silent_wire}
use Rattle.uac_graph.proofs.TickRowsLemmas.{slot_set}
use Rattle.uac_graph.proofs.TickSilenceLemmas.{no_frames, no_rows, silent_frame, silent_ticks, ticks_set}
use Rattle.uac_graph.proofs.row_slots.silent_slots.Goals as goal

pub loop-entity-init : goal.loop-entity-init
loop-entity-init c = record {
  silent = λ tick.
      silent_none c.args.entities.now _ (λ id.
      ap (λ (list : List (Option (Vec Row Global))). frame_on (slot_frames tick (map (option_map (λ (rows : Vec Row Global). rows.items)) list)) id) c.in_ok-slots.ensures
      ∙ no_frames (λ (rows : Vec Row Global). rows.items) 256 tick id);
  sized = ap length c.in_ok-slots.ensures ∙ length-replicate {A = Option (Vec Row Global)} 256 None;
  given =
      subst (λ (list : List (Option (Vec Row Global))). SlotsHaveTicks c.args.ticks (map (option_map (λ (rows : Vec Row Global). rows.items)) list)) (sym c.in_ok-slots.ensures)
      (no_rows (λ (rows : Vec Row Global). rows.items) 256 c.args.ticks);
}

pub loop-entity-preserved-then-is_clock : goal.loop-entity-preserved-then-is_clock
loop-entity-preserved-then-is_clock c =
    let here = sym (at_read c.args.entities.now c.loop-entity.entity-index c.entity-item.result c.loop-entity-test.true c.entity-item.is) in
    record {
      silent = λ tick.
          silent_clock c.args.entities.now c.loop-entity.entity-index _ c.loop-entity-test.true
          (ap (λ (e : Entity). is_clock e.kind) here ∙ sym c.is_clock.ensures ∙ c.if-is_clock.true) (c.loop-entity.invariant.silent tick);
      sized = c.loop-entity.invariant.sized;
      given = c.loop-entity.invariant.given;
    }

pub loop-entity-preserved : goal.loop-entity-preserved
loop-entity-preserved c =
    let here = sym (at_read c.args.entities.now c.loop-entity.entity-index c.entity-item.result c.loop-entity-test.true c.entity-item.is) in
    let e = c.entity-item.result in
    let list = c.loop-entity.slots.items in
    let rows = c.in_ok-rows.rows in
    let slots : RowSlots = map (option_map (λ (rows : Vec Row Global). rows.items)) list in
    let new : RowSlots = map (option_map (λ (rows : Vec Row Global). rows.items)) (set list e.id (Some rows)) in
    let back : new ≡ set slots e.id (Some rows.items) = map-set (option_map (λ (rows : Vec Row Global). rows.items)) list e.id (Some rows) in
    let there : e.id < length slots = omega (arith, c.loop-entity.invariant.sized, length-map list (option_map (λ (rows : Vec Row Global). rows.items))) in
    record {
      silent = λ tick.
          silent_wire c.args.entities.now c.loop-entity.entity-index (slot_frames tick slots) (slot_frames tick new) (frame_at tick rows.items) c.requires c.loop-entity-test.true
          (ap (λ (f : Entity). is_clock f.kind) here ∙ sym c.is_clock.ensures ∙ c.if-is_clock.false)
          (ap (frame_at tick) c.in_ok-rows.ensures ∙ silent_frame e.cluster.channels c.args.ticks tick ∙ ap (λ (f : Entity). silence f.cluster.channels) (sym here))
          (subst (λ (f : Entity). (id : ℕ) → frame_on (slot_frames tick new) id ≡ (if eqb f.id id then Some (frame_at tick rows.items) else frame_on (slot_frames tick slots) id)) (sym here)
          (slot_set tick slots new e.id (Some rows.items) (frame_at tick rows.items) there back refl))
          (c.loop-entity.invariant.silent tick);
      sized = length-set list e.id (Some rows) ∙ c.loop-entity.invariant.sized;
      given =
          subst (SlotsHaveTicks c.args.ticks) (sym back)
          (ticks_set c.args.ticks slots e.id rows.items there c.loop-entity.invariant.given
          (subst (HaveTicks c.args.ticks) (sym c.in_ok-rows.ensures) (silent_ticks e.cluster.channels c.args.ticks)));
    }

pub returns-clause-silent : goal.returns-clause-silent
returns-clause-silent c = λ tick.
    let frames : Frames = slot_frames tick (map (option_map (λ (rows : Vec Row Global). rows.items)) c.loop-entity.slots.items) in
    let past : c.loop-entity.entity-index ≡ length c.args.entities.now = omega arith in
    silent_all c.args.entities.now frames (subst (λ (n : ℕ). AreSilentBelow c.args.entities.now n frames) past (c.loop-entity.invariant.silent tick))
