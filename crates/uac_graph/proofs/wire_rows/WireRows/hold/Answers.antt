use Rattle.std.proofs.Common.{◌≡◌, ◌∙◌, ◌<◌, ◌≤◌, ap, sym, refl, arith, length, map, set, get_or, None}
use Rattle.std.specs.Option.{option_map}
use Rattle.std.proofs.lemmas.List.{length-map, length-set, map-set}
use Rattle.uac_units.specs.SampleRows.{frame_at, row_lengths}
use Rattle.uac_graph.specs.TickRows.{RowSlots, RowsById, slot_frames, slot_lengths}
use Rattle.uac_graph.specs.Wiring.{frame_on}
use Rattle.uac_graph.proofs.TickRowsLemmas.{lengths_set, option_maps, room_kept, rows_counted, seen_in, slot_given, slot_has, slots_less}
use Rattle.uac_graph.proofs.wire_rows.WireRows.hold.Goals as goal

pub hold_into-requires-clause-there : goal.hold_into-requires-clause-there
hold_into-requires-clause-there c =
    let list = c.self.inside.slots.items in
    let id = c.args.terminal in
    let slots : RowSlots = map (option_map (λ rows. rows.items)) list in
    let same : slots ≡ c.args.self.now.slots = ap (λ (w : RowsById). w.slots) c.self.view_is in
    let there : id < length list = omega (arith, c.self.invariant.ids, length-map list (option_map (λ rows. rows.items)), c.ranges.terminal.fits) in
    let held : option_map (λ rows. rows.items) c.index_mut.result.now ≡ get_or slots id None = seen_in (λ rows. rows.items) list id c.index_mut.result.now there c.index_mut.ensures.value in
    option_maps length (λ rows. rows.items) c.index_mut.result.now
    ∙ ap (option_map length) held
    ∙ rows_counted 0 slots id
    ∙ ap (λ (s : RowSlots). option_map length (frame_on (slot_frames 0 s) id)) same
    ∙ c.requires.there

pub hold_into-requires-clause-inside : goal.hold_into-requires-clause-inside
hold_into-requires-clause-inside c =
    let list = c.self.inside.slots.items in
    let id = c.args.terminal in
    let slots : RowSlots = map (option_map (λ rows. rows.items)) list in
    let there : id < length list = omega (arith, c.self.invariant.ids, length-map list (option_map (λ rows. rows.items)), c.ranges.terminal.fits) in
    let held : option_map (λ rows. rows.items) c.index_mut.result.now ≡ get_or slots id None = seen_in (λ rows. rows.items) list id c.index_mut.result.now there c.index_mut.ensures.value in
    let ticks : c.args.ticks ≤ c.self.inside.room = omega (arith, c.requires.ticks, ap (λ (w : RowsById). w.room) c.self.view_is) in
    slot_has (λ rows. rows.items) c.args.ticks slots id c.index_mut.result.now (slots_less c.args.ticks c.self.inside.room slots ticks c.self.invariant.given) held

pub invariant_of-self : goal.invariant_of-self
invariant_of-self c =
    let list = c.self.inside.slots.items in
    let id = c.args.terminal in
    let slots : RowSlots = map (option_map (λ rows. rows.items)) list in
    let there : id < length list = omega (arith, c.self.invariant.ids, length-map list (option_map (λ rows. rows.items)), c.ranges.terminal.fits) in
    let held : option_map (λ rows. rows.items) c.index_mut.result.now ≡ get_or slots id None = seen_in (λ rows. rows.items) list id c.index_mut.result.now there c.index_mut.ensures.value in
    let slot = c.hold_into.new.slot in
    let new : RowSlots = map (option_map (λ rows. rows.items)) (set list id slot) in
    let back : new ≡ set slots id (option_map (λ rows. rows.items) slot) = map-set (option_map (λ rows. rows.items)) list id slot in
    let lengths : slot_lengths new ≡ slot_lengths slots =
    lengths_set slots new id (option_map (λ rows. rows.items) slot) back
    (sym (option_maps row_lengths (λ rows. rows.items) slot) ∙ c.hold_into.ensures.lengths ∙ option_maps row_lengths (λ rows. rows.items) c.index_mut.result.now ∙ ap (option_map row_lengths) held) in
    room_kept c.self.inside.room slots new c.self.inside.pins.items c.self.invariant (ap length back ∙ length-set slots id (option_map (λ rows. rows.items) slot)) lengths

pub returns-clause-frames : goal.returns-clause-frames
returns-clause-frames c = λ tick early k.
    let list = c.self.inside.slots.items in
    let id = c.args.terminal in
    let slots : RowSlots = map (option_map (λ rows. rows.items)) list in
    let same : slots ≡ c.args.self.now.slots = ap (λ (w : RowsById). w.slots) c.self.view_is in
    let slot = c.hold_into.new.slot in
    let new : RowSlots = map (option_map (λ rows. rows.items)) (set list id slot) in
    let back : new ≡ set slots id (option_map (λ rows. rows.items) slot) = map-set (option_map (λ rows. rows.items)) list id slot in
    let there_too : id < length slots = omega (arith, c.self.invariant.ids, c.ranges.terminal.fits) in
    slot_given tick slots new c.args.self.now.slots id (option_map (λ rows. rows.items) slot) c.args.frame.now.items c.args.frame.now.items there_too back same
    (sym (option_maps (frame_at tick) (λ rows. rows.items) slot) ∙ c.hold_into.ensures.frames tick early) refl k

pub returns-clause-lengths : goal.returns-clause-lengths
returns-clause-lengths c =
    let list = c.self.inside.slots.items in
    let id = c.args.terminal in
    let slots : RowSlots = map (option_map (λ rows. rows.items)) list in
    let same : slots ≡ c.args.self.now.slots = ap (λ (w : RowsById). w.slots) c.self.view_is in
    let there : id < length list = omega (arith, c.self.invariant.ids, length-map list (option_map (λ rows. rows.items)), c.ranges.terminal.fits) in
    let held : option_map (λ rows. rows.items) c.index_mut.result.now ≡ get_or slots id None = seen_in (λ rows. rows.items) list id c.index_mut.result.now there c.index_mut.ensures.value in
    let slot = c.hold_into.new.slot in
    let new : RowSlots = map (option_map (λ rows. rows.items)) (set list id slot) in
    let back : new ≡ set slots id (option_map (λ rows. rows.items) slot) = map-set (option_map (λ rows. rows.items)) list id slot in
    let lengths : slot_lengths new ≡ slot_lengths slots =
    lengths_set slots new id (option_map (λ rows. rows.items) slot) back
    (sym (option_maps row_lengths (λ rows. rows.items) slot) ∙ c.hold_into.ensures.lengths ∙ option_maps row_lengths (λ rows. rows.items) c.index_mut.result.now ∙ ap (option_map row_lengths) held) in
    lengths ∙ ap slot_lengths same
