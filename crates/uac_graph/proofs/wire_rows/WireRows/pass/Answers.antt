use Rattle.std.proofs.Common.{◌≡◌, ◌∙◌, ◌<◌, ◌≤◌, [], ap, sym, arith, length, map, set, get_or, unwrap_or, List, Option, Some, None, ℤ}
use Rattle.std.specs.Option.{option_map}
use Rattle.std.proofs.lemmas.List.{length-set}
use Rattle.uac_units.specs.SampleRows.{frame_at, row_lengths}
use Rattle.uac_graph.specs.TickRows.{RowSlots, RowsById, slot_frames, slot_lengths}
use Rattle.uac_graph.specs.Wiring.{frame_on}
use Rattle.uac_units.proofs.SampleRowsLemmas.{length-frame_at}
use Rattle.std.proofs.lemmas.List.{length-map}
use Rattle.uac_graph.proofs.TickRowsLemmas.{lengths_set, option_maps, put_back, room_kept, rows_counted, seen_beside, seen_in, slot_has, slot_passed, slot_ticks, slots_less, source_frame}
use Rattle.uac_graph.proofs.wire_rows.WireRows.pass.Goals as goal

pub copy_into-requires-clause-given : goal.copy_into-requires-clause-given
copy_into-requires-clause-given c =
    let list = c.self.inside.slots.items in
    let slots : RowSlots = map (option_map (λ rows. rows.items)) list in
    let same : slots ≡ c.args.self.now.slots = ap (λ (w : RowsById). w.slots) c.self.view_is in
    let there : c.args.to < length list = omega (arith, c.self.invariant.ids, length-map list (option_map (λ rows. rows.items)), c.ranges.to.fits) in
    let held : option_map (λ rows. rows.items) c.take-slot.result ≡ get_or slots c.args.to None =
    ap (option_map (λ rows. rows.items)) c.take-slot.ensures.value ∙ seen_in (λ rows. rows.items) list c.args.to c.index_mut.result.now there c.index_mut.ensures.value in
    let own : c.rows_of.result.now ≡ unwrap_or (get_or slots c.args.from None) [] =
    c.rows_of.ensures ∙ ap (λ (o : Option (List (List ℤ))). unwrap_or o [])
    (seen_beside (λ rows. rows.items) list c.args.to c.args.from c.index.result.now
    (omega (arith, c.self.invariant.ids, length-map list (option_map (λ rows. rows.items)), c.ranges.from.fits)) c.requires.apart
    (c.index.ensures ∙ ap (λ slot. get_or (set list c.args.to slot) c.args.from c.index.result.now) c.take-slot.ensures.after)) in
    let ticks : c.args.ticks ≤ c.self.inside.room = omega (arith, c.requires.ticks, ap (λ (w : RowsById). w.room) c.self.view_is) in
    slot_ticks c.args.ticks slots c.args.from c.rows_of.result.now (slots_less c.args.ticks c.self.inside.room slots ticks c.self.invariant.given) own

pub copy_into-requires-clause-there : goal.copy_into-requires-clause-there
copy_into-requires-clause-there c =
    let list = c.self.inside.slots.items in
    let slots : RowSlots = map (option_map (λ rows. rows.items)) list in
    let same : slots ≡ c.args.self.now.slots = ap (λ (w : RowsById). w.slots) c.self.view_is in
    let there : c.args.to < length list = omega (arith, c.self.invariant.ids, length-map list (option_map (λ rows. rows.items)), c.ranges.to.fits) in
    let held : option_map (λ rows. rows.items) c.take-slot.result ≡ get_or slots c.args.to None =
    ap (option_map (λ rows. rows.items)) c.take-slot.ensures.value ∙ seen_in (λ rows. rows.items) list c.args.to c.index_mut.result.now there c.index_mut.ensures.value in
    let own : c.rows_of.result.now ≡ unwrap_or (get_or slots c.args.from None) [] =
    c.rows_of.ensures ∙ ap (λ (o : Option (List (List ℤ))). unwrap_or o [])
    (seen_beside (λ rows. rows.items) list c.args.to c.args.from c.index.result.now
    (omega (arith, c.self.invariant.ids, length-map list (option_map (λ rows. rows.items)), c.ranges.from.fits)) c.requires.apart
    (c.index.ensures ∙ ap (λ slot. get_or (set list c.args.to slot) c.args.from c.index.result.now) c.take-slot.ensures.after)) in
    option_maps length (λ rows. rows.items) c.take-slot.result
    ∙ ap (option_map length) held
    ∙ rows_counted 0 slots c.args.to
    ∙ ap (λ (s : RowSlots). option_map length (frame_on (slot_frames 0 s) c.args.to)) same
    ∙ c.requires.alike
    ∙ ap Some (ap length (sym (source_frame 0 slots c.args.self.now.slots c.args.from c.rows_of.result.now own same)) ∙ length-frame_at 0 c.rows_of.result.now)

pub copy_into-requires-clause-taken : goal.copy_into-requires-clause-taken
copy_into-requires-clause-taken c =
    let list = c.self.inside.slots.items in
    let slots : RowSlots = map (option_map (λ rows. rows.items)) list in
    let same : slots ≡ c.args.self.now.slots = ap (λ (w : RowsById). w.slots) c.self.view_is in
    let there : c.args.to < length list = omega (arith, c.self.invariant.ids, length-map list (option_map (λ rows. rows.items)), c.ranges.to.fits) in
    let held : option_map (λ rows. rows.items) c.take-slot.result ≡ get_or slots c.args.to None =
    ap (option_map (λ rows. rows.items)) c.take-slot.ensures.value ∙ seen_in (λ rows. rows.items) list c.args.to c.index_mut.result.now there c.index_mut.ensures.value in
    let own : c.rows_of.result.now ≡ unwrap_or (get_or slots c.args.from None) [] =
    c.rows_of.ensures ∙ ap (λ (o : Option (List (List ℤ))). unwrap_or o [])
    (seen_beside (λ rows. rows.items) list c.args.to c.args.from c.index.result.now
    (omega (arith, c.self.invariant.ids, length-map list (option_map (λ rows. rows.items)), c.ranges.from.fits)) c.requires.apart
    (c.index.ensures ∙ ap (λ slot. get_or (set list c.args.to slot) c.args.from c.index.result.now) c.take-slot.ensures.after)) in
    let ticks : c.args.ticks ≤ c.self.inside.room = omega (arith, c.requires.ticks, ap (λ (w : RowsById). w.room) c.self.view_is) in
    slot_has (λ rows. rows.items) c.args.ticks slots c.args.to c.take-slot.result (slots_less c.args.ticks c.self.inside.room slots ticks c.self.invariant.given) held

pub invariant_of-self : goal.invariant_of-self
invariant_of-self c =
    let list = c.self.inside.slots.items in
    let slots : RowSlots = map (option_map (λ rows. rows.items)) list in
    let same : slots ≡ c.args.self.now.slots = ap (λ (w : RowsById). w.slots) c.self.view_is in
    let there : c.args.to < length list = omega (arith, c.self.invariant.ids, length-map list (option_map (λ rows. rows.items)), c.ranges.to.fits) in
    let held : option_map (λ rows. rows.items) c.take-slot.result ≡ get_or slots c.args.to None =
    ap (option_map (λ rows. rows.items)) c.take-slot.ensures.value ∙ seen_in (λ rows. rows.items) list c.args.to c.index_mut.result.now there c.index_mut.ensures.value in
    let own : c.rows_of.result.now ≡ unwrap_or (get_or slots c.args.from None) [] =
    c.rows_of.ensures ∙ ap (λ (o : Option (List (List ℤ))). unwrap_or o [])
    (seen_beside (λ rows. rows.items) list c.args.to c.args.from c.index.result.now
    (omega (arith, c.self.invariant.ids, length-map list (option_map (λ rows. rows.items)), c.ranges.from.fits)) c.requires.apart
    (c.index.ensures ∙ ap (λ slot. get_or (set list c.args.to slot) c.args.from c.index.result.now) c.take-slot.ensures.after)) in
    let new : RowSlots = map (option_map (λ rows. rows.items)) (set (set list c.args.to c.take-slot.new.self) c.args.to c.copy_into.new.slot) in
    let back : new ≡ set slots c.args.to (option_map (λ rows. rows.items) c.copy_into.new.slot) =
    ap (λ slot. map (option_map (λ rows. rows.items)) (set (set list c.args.to slot) c.args.to c.copy_into.new.slot)) c.take-slot.ensures.after
    ∙ put_back (λ rows. rows.items) list c.args.to c.copy_into.new.slot in
    let lengths : slot_lengths new ≡ slot_lengths slots =
    lengths_set slots new c.args.to (option_map (λ rows. rows.items) c.copy_into.new.slot) back
    (sym (option_maps row_lengths (λ rows. rows.items) c.copy_into.new.slot) ∙ c.copy_into.ensures.lengths ∙ option_maps row_lengths (λ rows. rows.items) c.take-slot.result
    ∙ ap (option_map row_lengths) held) in
    let there_too : c.args.to < length slots = omega (arith, c.self.invariant.ids, c.ranges.to.fits) in
    room_kept c.self.inside.room slots new c.self.inside.pins.items c.self.invariant (ap length back ∙ length-set slots c.args.to (option_map (λ rows. rows.items) c.copy_into.new.slot)) lengths

pub returns-clause-frames : goal.returns-clause-frames
returns-clause-frames c = λ tick early k.
    let list = c.self.inside.slots.items in
    let slots : RowSlots = map (option_map (λ rows. rows.items)) list in
    let same : slots ≡ c.args.self.now.slots = ap (λ (w : RowsById). w.slots) c.self.view_is in
    let there : c.args.to < length list = omega (arith, c.self.invariant.ids, length-map list (option_map (λ rows. rows.items)), c.ranges.to.fits) in
    let held : option_map (λ rows. rows.items) c.take-slot.result ≡ get_or slots c.args.to None =
    ap (option_map (λ rows. rows.items)) c.take-slot.ensures.value ∙ seen_in (λ rows. rows.items) list c.args.to c.index_mut.result.now there c.index_mut.ensures.value in
    let own : c.rows_of.result.now ≡ unwrap_or (get_or slots c.args.from None) [] =
    c.rows_of.ensures ∙ ap (λ (o : Option (List (List ℤ))). unwrap_or o [])
    (seen_beside (λ rows. rows.items) list c.args.to c.args.from c.index.result.now
    (omega (arith, c.self.invariant.ids, length-map list (option_map (λ rows. rows.items)), c.ranges.from.fits)) c.requires.apart
    (c.index.ensures ∙ ap (λ slot. get_or (set list c.args.to slot) c.args.from c.index.result.now) c.take-slot.ensures.after)) in
    let new : RowSlots = map (option_map (λ rows. rows.items)) (set (set list c.args.to c.take-slot.new.self) c.args.to c.copy_into.new.slot) in
    let back : new ≡ set slots c.args.to (option_map (λ rows. rows.items) c.copy_into.new.slot) =
    ap (λ slot. map (option_map (λ rows. rows.items)) (set (set list c.args.to slot) c.args.to c.copy_into.new.slot)) c.take-slot.ensures.after
    ∙ put_back (λ rows. rows.items) list c.args.to c.copy_into.new.slot in
    let lengths : slot_lengths new ≡ slot_lengths slots =
    lengths_set slots new c.args.to (option_map (λ rows. rows.items) c.copy_into.new.slot) back
    (sym (option_maps row_lengths (λ rows. rows.items) c.copy_into.new.slot) ∙ c.copy_into.ensures.lengths ∙ option_maps row_lengths (λ rows. rows.items) c.take-slot.result
    ∙ ap (option_map row_lengths) held) in
    let there_too : c.args.to < length slots = omega (arith, c.self.invariant.ids, c.ranges.to.fits) in
    slot_passed tick slots new c.args.self.now.slots c.args.to c.args.from (option_map (λ rows. rows.items) c.copy_into.new.slot) (frame_at tick c.rows_of.result.now) there_too back same
    (sym (option_maps (frame_at tick) (λ rows. rows.items) c.copy_into.new.slot) ∙ c.copy_into.ensures.frames tick early)
    (source_frame tick slots c.args.self.now.slots c.args.from c.rows_of.result.now own same) k

pub returns-clause-lengths : goal.returns-clause-lengths
returns-clause-lengths c =
    let list = c.self.inside.slots.items in
    let slots : RowSlots = map (option_map (λ rows. rows.items)) list in
    let same : slots ≡ c.args.self.now.slots = ap (λ (w : RowsById). w.slots) c.self.view_is in
    let there : c.args.to < length list = omega (arith, c.self.invariant.ids, length-map list (option_map (λ rows. rows.items)), c.ranges.to.fits) in
    let held : option_map (λ rows. rows.items) c.take-slot.result ≡ get_or slots c.args.to None =
    ap (option_map (λ rows. rows.items)) c.take-slot.ensures.value ∙ seen_in (λ rows. rows.items) list c.args.to c.index_mut.result.now there c.index_mut.ensures.value in
    let own : c.rows_of.result.now ≡ unwrap_or (get_or slots c.args.from None) [] =
    c.rows_of.ensures ∙ ap (λ (o : Option (List (List ℤ))). unwrap_or o [])
    (seen_beside (λ rows. rows.items) list c.args.to c.args.from c.index.result.now
    (omega (arith, c.self.invariant.ids, length-map list (option_map (λ rows. rows.items)), c.ranges.from.fits)) c.requires.apart
    (c.index.ensures ∙ ap (λ slot. get_or (set list c.args.to slot) c.args.from c.index.result.now) c.take-slot.ensures.after)) in
    let new : RowSlots = map (option_map (λ rows. rows.items)) (set (set list c.args.to c.take-slot.new.self) c.args.to c.copy_into.new.slot) in
    let back : new ≡ set slots c.args.to (option_map (λ rows. rows.items) c.copy_into.new.slot) =
    ap (λ slot. map (option_map (λ rows. rows.items)) (set (set list c.args.to slot) c.args.to c.copy_into.new.slot)) c.take-slot.ensures.after
    ∙ put_back (λ rows. rows.items) list c.args.to c.copy_into.new.slot in
    let lengths : slot_lengths new ≡ slot_lengths slots =
    lengths_set slots new c.args.to (option_map (λ rows. rows.items) c.copy_into.new.slot) back
    (sym (option_maps row_lengths (λ rows. rows.items) c.copy_into.new.slot) ∙ c.copy_into.ensures.lengths ∙ option_maps row_lengths (λ rows. rows.items) c.take-slot.result
    ∙ ap (option_map row_lengths) held) in
    let there_too : c.args.to < length slots = omega (arith, c.self.invariant.ids, c.ranges.to.fits) in
    lengths ∙ ap slot_lengths same
