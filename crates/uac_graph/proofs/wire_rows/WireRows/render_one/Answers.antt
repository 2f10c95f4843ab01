use Rattle.std.proofs.Common.{◌≡◌, ◌∙◌, ◌<◌, ◌≤◌, [], ap, sym, arith, length, map, set, get_or, unwrap_or, List, Option, None, ℤ}
use Rattle.std.specs.Option.{option_map}
use Rattle.std.proofs.lemmas.List.{length-set}
use Rattle.uac_units.specs.SampleRows.{frame_at, row_lengths}
use Rattle.uac_graph.specs.TickRows.{RowSlots, RowsById, slot_frames, slot_lengths}
use Rattle.uac_graph.specs.Wiring.{frame_on}
use Rattle.uac_units.proofs.SampleRowsLemmas.{length-frame_at}
use Rattle.std.proofs.lemmas.List.{length-map}
use Rattle.uac_graph.proofs.TickRowsLemmas.{lengths_set, option_maps, put_back, room_kept, rows_counted, seen_beside, seen_in, slot_has, slot_rendered, slot_ticks, slots_less, source_frame, fits_moved}
use Rattle.uac_graph.proofs.wire_rows.WireRows.render_one.Goals as goal

pub render_into-requires-clause-fits : goal.render_into-requires-clause-fits
render_into-requires-clause-fits g c =
    let list = c.self.inside.slots.items in
    let slots : RowSlots = map (option_map (λ rows. rows.items)) list in
    let same : slots ≡ c.args.self.now.slots = ap (λ (w : RowsById). w.slots) c.self.view_is in
    let there : c.args.id < length list = omega (arith, c.self.invariant.ids, length-map list (option_map (λ rows. rows.items)), c.ranges.id.fits) in
    let held : option_map (λ rows. rows.items) c.take-slot.result ≡ get_or slots c.args.id None =
    ap (option_map (λ rows. rows.items)) c.take-slot.ensures.value ∙ seen_in (λ rows. rows.items) list c.args.id c.index_mut.result.now there c.index_mut.ensures.value in
    let own : c.rows_of.result.now ≡ unwrap_or (get_or slots c.args.source None) [] =
    c.rows_of.ensures ∙ ap (λ (o : Option (List (List ℤ))). unwrap_or o [])
    (seen_beside (λ rows. rows.items) list c.args.id c.args.source c.index.result.now
    (omega (arith, c.self.invariant.ids, length-map list (option_map (λ rows. rows.items)), c.ranges.source.fits)) c.requires.apart
    (c.index.ensures ∙ ap (λ slot. get_or (set list c.args.id slot) c.args.source c.index.result.now) c.take-slot.ensures.after)) in
    fits_moved c.requires.fits (sym (source_frame 0 slots c.args.self.now.slots c.args.source c.rows_of.result.now own same))

pub render_into-requires-clause-few : goal.render_into-requires-clause-few
render_into-requires-clause-few g c =
    let list = c.self.inside.slots.items in
    let slots : RowSlots = map (option_map (λ rows. rows.items)) list in
    let same : slots ≡ c.args.self.now.slots = ap (λ (w : RowsById). w.slots) c.self.view_is in
    let there : c.args.id < length list = omega (arith, c.self.invariant.ids, length-map list (option_map (λ rows. rows.items)), c.ranges.id.fits) in
    let held : option_map (λ rows. rows.items) c.take-slot.result ≡ get_or slots c.args.id None =
    ap (option_map (λ rows. rows.items)) c.take-slot.ensures.value ∙ seen_in (λ rows. rows.items) list c.args.id c.index_mut.result.now there c.index_mut.ensures.value in
    let own : c.rows_of.result.now ≡ unwrap_or (get_or slots c.args.source None) [] =
    c.rows_of.ensures ∙ ap (λ (o : Option (List (List ℤ))). unwrap_or o [])
    (seen_beside (λ rows. rows.items) list c.args.id c.args.source c.index.result.now
    (omega (arith, c.self.invariant.ids, length-map list (option_map (λ rows. rows.items)), c.ranges.source.fits)) c.requires.apart
    (c.index.ensures ∙ ap (λ slot. get_or (set list c.args.id slot) c.args.source c.index.result.now) c.take-slot.ensures.after)) in
    omega (arith, c.requires.few, ap length (source_frame 0 slots c.args.self.now.slots c.args.source c.rows_of.result.now own same), length-frame_at 0 c.rows_of.result.now)

pub render_into-requires-clause-given : goal.render_into-requires-clause-given
render_into-requires-clause-given g c =
    let list = c.self.inside.slots.items in
    let slots : RowSlots = map (option_map (λ rows. rows.items)) list in
    let same : slots ≡ c.args.self.now.slots = ap (λ (w : RowsById). w.slots) c.self.view_is in
    let there : c.args.id < length list = omega (arith, c.self.invariant.ids, length-map list (option_map (λ rows. rows.items)), c.ranges.id.fits) in
    let held : option_map (λ rows. rows.items) c.take-slot.result ≡ get_or slots c.args.id None =
    ap (option_map (λ rows. rows.items)) c.take-slot.ensures.value ∙ seen_in (λ rows. rows.items) list c.args.id c.index_mut.result.now there c.index_mut.ensures.value in
    let own : c.rows_of.result.now ≡ unwrap_or (get_or slots c.args.source None) [] =
    c.rows_of.ensures ∙ ap (λ (o : Option (List (List ℤ))). unwrap_or o [])
    (seen_beside (λ rows. rows.items) list c.args.id c.args.source c.index.result.now
    (omega (arith, c.self.invariant.ids, length-map list (option_map (λ rows. rows.items)), c.ranges.source.fits)) c.requires.apart
    (c.index.ensures ∙ ap (λ slot. get_or (set list c.args.id slot) c.args.source c.index.result.now) c.take-slot.ensures.after)) in
    let ticks : c.args.ticks ≤ c.self.inside.room = omega (arith, c.requires.ticks, ap (λ (w : RowsById). w.room) c.self.view_is) in
    slot_ticks c.args.ticks slots c.args.source c.rows_of.result.now (slots_less c.args.ticks c.self.inside.room slots ticks c.self.invariant.given) own

pub render_into-requires-clause-there : goal.render_into-requires-clause-there
render_into-requires-clause-there g c =
    let list = c.self.inside.slots.items in
    let slots : RowSlots = map (option_map (λ rows. rows.items)) list in
    let same : slots ≡ c.args.self.now.slots = ap (λ (w : RowsById). w.slots) c.self.view_is in
    let there : c.args.id < length list = omega (arith, c.self.invariant.ids, length-map list (option_map (λ rows. rows.items)), c.ranges.id.fits) in
    let held : option_map (λ rows. rows.items) c.take-slot.result ≡ get_or slots c.args.id None =
    ap (option_map (λ rows. rows.items)) c.take-slot.ensures.value ∙ seen_in (λ rows. rows.items) list c.args.id c.index_mut.result.now there c.index_mut.ensures.value in
    let own : c.rows_of.result.now ≡ unwrap_or (get_or slots c.args.source None) [] =
    c.rows_of.ensures ∙ ap (λ (o : Option (List (List ℤ))). unwrap_or o [])
    (seen_beside (λ rows. rows.items) list c.args.id c.args.source c.index.result.now
    (omega (arith, c.self.invariant.ids, length-map list (option_map (λ rows. rows.items)), c.ranges.source.fits)) c.requires.apart
    (c.index.ensures ∙ ap (λ slot. get_or (set list c.args.id slot) c.args.source c.index.result.now) c.take-slot.ensures.after)) in
    option_maps length (λ rows. rows.items) c.take-slot.result
    ∙ ap (option_map length) held
    ∙ rows_counted 0 slots c.args.id
    ∙ ap (λ (s : RowSlots). option_map length (frame_on (slot_frames 0 s) c.args.id)) same
    ∙ c.requires.there

pub render_into-requires-clause-taken : goal.render_into-requires-clause-taken
render_into-requires-clause-taken g c =
    let list = c.self.inside.slots.items in
    let slots : RowSlots = map (option_map (λ rows. rows.items)) list in
    let same : slots ≡ c.args.self.now.slots = ap (λ (w : RowsById). w.slots) c.self.view_is in
    let there : c.args.id < length list = omega (arith, c.self.invariant.ids, length-map list (option_map (λ rows. rows.items)), c.ranges.id.fits) in
    let held : option_map (λ rows. rows.items) c.take-slot.result ≡ get_or slots c.args.id None =
    ap (option_map (λ rows. rows.items)) c.take-slot.ensures.value ∙ seen_in (λ rows. rows.items) list c.args.id c.index_mut.result.now there c.index_mut.ensures.value in
    let own : c.rows_of.result.now ≡ unwrap_or (get_or slots c.args.source None) [] =
    c.rows_of.ensures ∙ ap (λ (o : Option (List (List ℤ))). unwrap_or o [])
    (seen_beside (λ rows. rows.items) list c.args.id c.args.source c.index.result.now
    (omega (arith, c.self.invariant.ids, length-map list (option_map (λ rows. rows.items)), c.ranges.source.fits)) c.requires.apart
    (c.index.ensures ∙ ap (λ slot. get_or (set list c.args.id slot) c.args.source c.index.result.now) c.take-slot.ensures.after)) in
    let ticks : c.args.ticks ≤ c.self.inside.room = omega (arith, c.requires.ticks, ap (λ (w : RowsById). w.room) c.self.view_is) in
    slot_has (λ rows. rows.items) c.args.ticks slots c.args.id c.take-slot.result (slots_less c.args.ticks c.self.inside.room slots ticks c.self.invariant.given) held

pub invariant_of-self : goal.invariant_of-self
invariant_of-self g c =
    let list = c.self.inside.slots.items in
    let slots : RowSlots = map (option_map (λ rows. rows.items)) list in
    let same : slots ≡ c.args.self.now.slots = ap (λ (w : RowsById). w.slots) c.self.view_is in
    let there : c.args.id < length list = omega (arith, c.self.invariant.ids, length-map list (option_map (λ rows. rows.items)), c.ranges.id.fits) in
    let held : option_map (λ rows. rows.items) c.take-slot.result ≡ get_or slots c.args.id None =
    ap (option_map (λ rows. rows.items)) c.take-slot.ensures.value ∙ seen_in (λ rows. rows.items) list c.args.id c.index_mut.result.now there c.index_mut.ensures.value in
    let own : c.rows_of.result.now ≡ unwrap_or (get_or slots c.args.source None) [] =
    c.rows_of.ensures ∙ ap (λ (o : Option (List (List ℤ))). unwrap_or o [])
    (seen_beside (λ rows. rows.items) list c.args.id c.args.source c.index.result.now
    (omega (arith, c.self.invariant.ids, length-map list (option_map (λ rows. rows.items)), c.ranges.source.fits)) c.requires.apart
    (c.index.ensures ∙ ap (λ slot. get_or (set list c.args.id slot) c.args.source c.index.result.now) c.take-slot.ensures.after)) in
    let new : RowSlots = map (option_map (λ rows. rows.items)) (set (set list c.args.id c.take-slot.new.self) c.args.id c.render_into.new.slot) in
    let back : new ≡ set slots c.args.id (option_map (λ rows. rows.items) c.render_into.new.slot) =
    ap (λ slot. map (option_map (λ rows. rows.items)) (set (set list c.args.id slot) c.args.id c.render_into.new.slot)) c.take-slot.ensures.after
    ∙ put_back (λ rows. rows.items) list c.args.id c.render_into.new.slot in
    let lengths : slot_lengths new ≡ slot_lengths slots =
    lengths_set slots new c.args.id (option_map (λ rows. rows.items) c.render_into.new.slot) back
    (sym (option_maps row_lengths (λ rows. rows.items) c.render_into.new.slot) ∙ c.render_into.ensures.lengths ∙ option_maps row_lengths (λ rows. rows.items) c.take-slot.result
    ∙ ap (option_map row_lengths) held) in
    let there_too : c.args.id < length slots = omega (arith, c.self.invariant.ids, c.ranges.id.fits) in
    room_kept c.self.inside.room slots new c.self.inside.pins.items c.self.invariant (ap length back ∙ length-set slots c.args.id (option_map (λ rows. rows.items) c.render_into.new.slot)) lengths

pub returns-clause-frames : goal.returns-clause-frames
returns-clause-frames g c = λ tick early k.
    let list = c.self.inside.slots.items in
    let slots : RowSlots = map (option_map (λ rows. rows.items)) list in
    let same : slots ≡ c.args.self.now.slots = ap (λ (w : RowsById). w.slots) c.self.view_is in
    let there : c.args.id < length list = omega (arith, c.self.invariant.ids, length-map list (option_map (λ rows. rows.items)), c.ranges.id.fits) in
    let held : option_map (λ rows. rows.items) c.take-slot.result ≡ get_or slots c.args.id None =
    ap (option_map (λ rows. rows.items)) c.take-slot.ensures.value ∙ seen_in (λ rows. rows.items) list c.args.id c.index_mut.result.now there c.index_mut.ensures.value in
    let own : c.rows_of.result.now ≡ unwrap_or (get_or slots c.args.source None) [] =
    c.rows_of.ensures ∙ ap (λ (o : Option (List (List ℤ))). unwrap_or o [])
    (seen_beside (λ rows. rows.items) list c.args.id c.args.source c.index.result.now
    (omega (arith, c.self.invariant.ids, length-map list (option_map (λ rows. rows.items)), c.ranges.source.fits)) c.requires.apart
    (c.index.ensures ∙ ap (λ slot. get_or (set list c.args.id slot) c.args.source c.index.result.now) c.take-slot.ensures.after)) in
    let new : RowSlots = map (option_map (λ rows. rows.items)) (set (set list c.args.id c.take-slot.new.self) c.args.id c.render_into.new.slot) in
    let back : new ≡ set slots c.args.id (option_map (λ rows. rows.items) c.render_into.new.slot) =
    ap (λ slot. map (option_map (λ rows. rows.items)) (set (set list c.args.id slot) c.args.id c.render_into.new.slot)) c.take-slot.ensures.after
    ∙ put_back (λ rows. rows.items) list c.args.id c.render_into.new.slot in
    let lengths : slot_lengths new ≡ slot_lengths slots =
    lengths_set slots new c.args.id (option_map (λ rows. rows.items) c.render_into.new.slot) back
    (sym (option_maps row_lengths (λ rows. rows.items) c.render_into.new.slot) ∙ c.render_into.ensures.lengths ∙ option_maps row_lengths (λ rows. rows.items) c.take-slot.result
    ∙ ap (option_map row_lengths) held) in
    let there_too : c.args.id < length slots = omega (arith, c.self.invariant.ids, c.ranges.id.fits) in
    slot_rendered tick slots new c.args.self.now.slots c.args.id c.args.source (option_map (λ rows. rows.items) c.render_into.new.slot) _ c.args.job.now (frame_at tick c.rows_of.result.now) there_too back same
    (sym (option_maps (frame_at tick) (λ rows. rows.items) c.render_into.new.slot) ∙ c.render_into.ensures.frames tick early)
    (source_frame tick slots c.args.self.now.slots c.args.source c.rows_of.result.now own same) k

pub returns-clause-lengths : goal.returns-clause-lengths
returns-clause-lengths g c =
    let list = c.self.inside.slots.items in
    let slots : RowSlots = map (option_map (λ rows. rows.items)) list in
    let same : slots ≡ c.args.self.now.slots = ap (λ (w : RowsById). w.slots) c.self.view_is in
    let there : c.args.id < length list = omega (arith, c.self.invariant.ids, length-map list (option_map (λ rows. rows.items)), c.ranges.id.fits) in
    let held : option_map (λ rows. rows.items) c.take-slot.result ≡ get_or slots c.args.id None =
    ap (option_map (λ rows. rows.items)) c.take-slot.ensures.value ∙ seen_in (λ rows. rows.items) list c.args.id c.index_mut.result.now there c.index_mut.ensures.value in
    let own : c.rows_of.result.now ≡ unwrap_or (get_or slots c.args.source None) [] =
    c.rows_of.ensures ∙ ap (λ (o : Option (List (List ℤ))). unwrap_or o [])
    (seen_beside (λ rows. rows.items) list c.args.id c.args.source c.index.result.now
    (omega (arith, c.self.invariant.ids, length-map list (option_map (λ rows. rows.items)), c.ranges.source.fits)) c.requires.apart
    (c.index.ensures ∙ ap (λ slot. get_or (set list c.args.id slot) c.args.source c.index.result.now) c.take-slot.ensures.after)) in
    let new : RowSlots = map (option_map (λ rows. rows.items)) (set (set list c.args.id c.take-slot.new.self) c.args.id c.render_into.new.slot) in
    let back : new ≡ set slots c.args.id (option_map (λ rows. rows.items) c.render_into.new.slot) =
    ap (λ slot. map (option_map (λ rows. rows.items)) (set (set list c.args.id slot) c.args.id c.render_into.new.slot)) c.take-slot.ensures.after
    ∙ put_back (λ rows. rows.items) list c.args.id c.render_into.new.slot in
    let lengths : slot_lengths new ≡ slot_lengths slots =
    lengths_set slots new c.args.id (option_map (λ rows. rows.items) c.render_into.new.slot) back
    (sym (option_maps row_lengths (λ rows. rows.items) c.render_into.new.slot) ∙ c.render_into.ensures.lengths ∙ option_maps row_lengths (λ rows. rows.items) c.take-slot.result
    ∙ ap (option_map row_lengths) held) in
    let there_too : c.args.id < length slots = omega (arith, c.self.invariant.ids, c.ranges.id.fits) in
    lengths ∙ ap slot_lengths same
