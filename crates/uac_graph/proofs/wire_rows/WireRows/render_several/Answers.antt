use Rattle.std.proofs.Common.{◌≡◌, ◌∙◌, ◌<◌, ◌≤◌, ap, sym, subst, arith, length, map, set, take, get_or, List, None, ℤ}
use Rattle.std.specs.Option.{option_map}
use Rattle.std.proofs.lemmas.List.{length-map, length-set, map-set, with_items_is}
use Rattle.std.proofs.lemmas.List.Elements.{All-take}
use Rattle.uac_units.specs.Rendering.{in_a_row}
use Rattle.uac_units.specs.SampleRows.{HaveTicks, frame_at, row_lengths}
use Rattle.uac_units.proofs.SampleRowsLemmas.{ticks_kept, ticks_less}
use Rattle.uac_graph.specs.TickRows.{RowSlots, RowsById, slot_frames, slot_lengths}
use Rattle.uac_graph.specs.Wiring.{frame_on, samples_on}
use Rattle.uac_graph.proofs.TickRowsLemmas.{lengths_set, option_maps, room_kept, rows_counted, seen_in, slot_has, slot_made, slots_less}
use Rattle.uac_graph.proofs.wire_rows.WireRows.render_several.Goals as goal

pub render_into-requires-clause-given : goal.render_into-requires-clause-given
render_into-requires-clause-given g c =
    let ticks : c.args.ticks ≤ c.self.inside.room = omega (arith, c.requires.ticks, ap (λ (w : RowsById). w.room) c.self.view_is) in
    let gathered = c.gather_rows-count.new.pins in
    let whole : c.as_slice-2.result.now ≡ gathered =
    c.as_slice-2.ensures.value ∙ with_items_is c.self.inside.pins gathered (omega (arith, c.gather_rows-count.auto.pins, ap length c.as_mut_slice.ensures.value)) in
    let have : HaveTicks c.args.ticks gathered =
    ticks_kept c.args.ticks c.as_mut_slice.result.now gathered c.gather_rows-count.ensures.lengths
    (subst (HaveTicks c.args.ticks) (sym c.as_mut_slice.ensures.value) (ticks_less c.args.ticks c.self.inside.room c.self.inside.pins.items ticks c.self.invariant.taken)) in
    All-take (λ (row : List ℤ). c.args.ticks ≤ length row) c.gather_rows-count.result c.as_slice-2.result.now (subst (HaveTicks c.args.ticks) (sym whole) have)

pub render_into-requires-clause-there : goal.render_into-requires-clause-there
render_into-requires-clause-there g c =
    let list = c.self.inside.slots.items in
    let slots : RowSlots = map (option_map (λ rows. rows.items)) list in
    let same : slots ≡ c.args.self.now.slots = ap (λ (w : RowsById). w.slots) c.self.view_is in
    let there : c.args.id < length list = omega (arith, c.self.invariant.ids, length-map list (option_map (λ rows. rows.items)), c.ranges.id.fits) in
    let held : option_map (λ rows. rows.items) c.index_mut.result.now ≡ get_or slots c.args.id None = seen_in (λ rows. rows.items) list c.args.id c.index_mut.result.now there c.index_mut.ensures.value in
    option_maps length (λ rows. rows.items) c.index_mut.result.now
    ∙ ap (option_map length) held
    ∙ rows_counted 0 slots c.args.id
    ∙ ap (λ (s : RowSlots). option_map length (frame_on (slot_frames 0 s) c.args.id)) same
    ∙ c.requires.there

pub render_into-requires-clause-taken : goal.render_into-requires-clause-taken
render_into-requires-clause-taken g c =
    let list = c.self.inside.slots.items in
    let slots : RowSlots = map (option_map (λ rows. rows.items)) list in
    let same : slots ≡ c.args.self.now.slots = ap (λ (w : RowsById). w.slots) c.self.view_is in
    let there : c.args.id < length list = omega (arith, c.self.invariant.ids, length-map list (option_map (λ rows. rows.items)), c.ranges.id.fits) in
    let held : option_map (λ rows. rows.items) c.index_mut.result.now ≡ get_or slots c.args.id None = seen_in (λ rows. rows.items) list c.args.id c.index_mut.result.now there c.index_mut.ensures.value in
    let ticks : c.args.ticks ≤ c.self.inside.room = omega (arith, c.requires.ticks, ap (λ (w : RowsById). w.room) c.self.view_is) in
    slot_has (λ rows. rows.items) c.args.ticks slots c.args.id c.index_mut.result.now (slots_less c.args.ticks c.self.inside.room slots ticks c.self.invariant.given) held

pub invariant_of-self : goal.invariant_of-self
invariant_of-self g c =
    let list = c.self.inside.slots.items in
    let slots : RowSlots = map (option_map (λ rows. rows.items)) list in
    let same : slots ≡ c.args.self.now.slots = ap (λ (w : RowsById). w.slots) c.self.view_is in
    let there : c.args.id < length list = omega (arith, c.self.invariant.ids, length-map list (option_map (λ rows. rows.items)), c.ranges.id.fits) in
    let held : option_map (λ rows. rows.items) c.index_mut.result.now ≡ get_or slots c.args.id None = seen_in (λ rows. rows.items) list c.args.id c.index_mut.result.now there c.index_mut.ensures.value in
    let new : RowSlots = map (option_map (λ rows. rows.items)) (set list c.args.id c.render_into.new.slot) in
    let back : new ≡ set slots c.args.id (option_map (λ rows. rows.items) c.render_into.new.slot) = map-set (option_map (λ rows. rows.items)) list c.args.id c.render_into.new.slot in
    let lengths : slot_lengths new ≡ slot_lengths slots =
    lengths_set slots new c.args.id (option_map (λ rows. rows.items) c.render_into.new.slot) back
    (sym (option_maps row_lengths (λ rows. rows.items) c.render_into.new.slot) ∙ c.render_into.ensures.lengths ∙ option_maps row_lengths (λ rows. rows.items) c.index_mut.result.now
    ∙ ap (option_map row_lengths) held) in
    let there_too : c.args.id < length slots = omega (arith, c.self.invariant.ids, c.ranges.id.fits) in
    let gathered = c.gather_rows-count.new.pins in
    let items_are = with_items_is c.self.inside.pins gathered (omega (arith, c.gather_rows-count.auto.pins, ap length c.as_mut_slice.ensures.value)) in
    let kept = room_kept c.self.inside.room slots new c.self.inside.pins.items c.self.invariant (ap length back ∙ length-set slots c.args.id (option_map (λ rows. rows.items) c.render_into.new.slot)) lengths in
    record {
      ids = kept.ids;
      given = kept.given;
      most = ap length items_are ∙ c.gather_rows-count.auto.pins ∙ ap length c.as_mut_slice.ensures.value ∙ c.self.invariant.most;
      taken =
          subst (HaveTicks c.self.inside.room) (sym items_are)
          (ticks_kept c.self.inside.room c.as_mut_slice.result.now gathered c.gather_rows-count.ensures.lengths
          (subst (HaveTicks c.self.inside.room) (sym c.as_mut_slice.ensures.value) c.self.invariant.taken));
    }

pub returns-clause-frames : goal.returns-clause-frames
returns-clause-frames g c = λ tick early k.
    let list = c.self.inside.slots.items in
    let slots : RowSlots = map (option_map (λ rows. rows.items)) list in
    let same : slots ≡ c.args.self.now.slots = ap (λ (w : RowsById). w.slots) c.self.view_is in
    let there : c.args.id < length list = omega (arith, c.self.invariant.ids, length-map list (option_map (λ rows. rows.items)), c.ranges.id.fits) in
    let held : option_map (λ rows. rows.items) c.index_mut.result.now ≡ get_or slots c.args.id None = seen_in (λ rows. rows.items) list c.args.id c.index_mut.result.now there c.index_mut.ensures.value in
    let gathered = c.gather_rows-count.new.pins in
    let whole : c.as_slice-2.result.now ≡ gathered =
    c.as_slice-2.ensures.value ∙ with_items_is c.self.inside.pins gathered (omega (arith, c.gather_rows-count.auto.pins, ap length c.as_mut_slice.ensures.value)) in
    let new : RowSlots = map (option_map (λ rows. rows.items)) (set list c.args.id c.render_into.new.slot) in
    let back : new ≡ set slots c.args.id (option_map (λ rows. rows.items) c.render_into.new.slot) = map-set (option_map (λ rows. rows.items)) list c.args.id c.render_into.new.slot in
    let lengths : slot_lengths new ≡ slot_lengths slots =
    lengths_set slots new c.args.id (option_map (λ rows. rows.items) c.render_into.new.slot) back
    (sym (option_maps row_lengths (λ rows. rows.items) c.render_into.new.slot) ∙ c.render_into.ensures.lengths ∙ option_maps row_lengths (λ rows. rows.items) c.index_mut.result.now
    ∙ ap (option_map row_lengths) held) in
    let there_too : c.args.id < length slots = omega (arith, c.self.invariant.ids, c.ranges.id.fits) in
    let framed : frame_at tick (take c.gather_rows-count.result c.as_slice-2.result.now) ≡ in_a_row (map (samples_on (slot_frames tick c.args.self.now.slots)) c.args.sources.now) =
    ap (λ (ps : List (List ℤ)). frame_at tick (take c.gather_rows-count.result ps)) whole
    ∙ c.gather_rows-count.ensures.frames tick early
    ∙ ap (λ l. in_a_row (map (samples_on (slot_frames tick (map (option_map (λ rows. rows.items)) l))) c.args.sources.now)) c.as_slice.ensures.value
    ∙ ap (λ (s : RowSlots). in_a_row (map (samples_on (slot_frames tick s)) c.args.sources.now)) same in
    slot_made tick slots new c.args.self.now.slots c.args.id (option_map (λ rows. rows.items) c.render_into.new.slot) _ c.args.job.now _ _ there_too back same
    (sym (option_maps (frame_at tick) (λ rows. rows.items) c.render_into.new.slot) ∙ c.render_into.ensures.frames tick early) framed k

pub returns-clause-lengths : goal.returns-clause-lengths
returns-clause-lengths g c =
    let list = c.self.inside.slots.items in
    let slots : RowSlots = map (option_map (λ rows. rows.items)) list in
    let same : slots ≡ c.args.self.now.slots = ap (λ (w : RowsById). w.slots) c.self.view_is in
    let there : c.args.id < length list = omega (arith, c.self.invariant.ids, length-map list (option_map (λ rows. rows.items)), c.ranges.id.fits) in
    let held : option_map (λ rows. rows.items) c.index_mut.result.now ≡ get_or slots c.args.id None = seen_in (λ rows. rows.items) list c.args.id c.index_mut.result.now there c.index_mut.ensures.value in
    let new : RowSlots = map (option_map (λ rows. rows.items)) (set list c.args.id c.render_into.new.slot) in
    let back : new ≡ set slots c.args.id (option_map (λ rows. rows.items) c.render_into.new.slot) = map-set (option_map (λ rows. rows.items)) list c.args.id c.render_into.new.slot in
    let lengths : slot_lengths new ≡ slot_lengths slots =
    lengths_set slots new c.args.id (option_map (λ rows. rows.items) c.render_into.new.slot) back
    (sym (option_maps row_lengths (λ rows. rows.items) c.render_into.new.slot) ∙ c.render_into.ensures.lengths ∙ option_maps row_lengths (λ rows. rows.items) c.index_mut.result.now
    ∙ ap (option_map row_lengths) held) in
    let there_too : c.args.id < length slots = omega (arith, c.self.invariant.ids, c.ranges.id.fits) in
    lengths ∙ ap slot_lengths same
