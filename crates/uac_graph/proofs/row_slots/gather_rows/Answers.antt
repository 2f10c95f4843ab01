use Rattle.std.proofs.Common.{◌≡◌, ◌∙◌, [], ap, sym, refl, arith, length, map, take, get_or, unwrap_or, List, Option, None, ℤ}
use Rattle.std.specs.Option.{option_map}
use Rattle.uac_units.specs.SampleRows.{frame_at}
use Rattle.uac_graph.specs.TickRows.{RowSlots, slot_frames}
use Rattle.uac_graph.specs.Wiring.{samples_on}
use Rattle.uac_units.proofs.SampleRowsLemmas.{ticks_kept}
use Rattle.uac_graph.proofs.RenderingLemmas.{row_more}
use Rattle.uac_graph.proofs.TickRowsLemmas.{gathered_fits, seen_in, slot_ticks, source_frame}
use Rattle.uac_graph.proofs.row_slots.gather_rows.Goals as goal

pub put_rows-end-requires-clause-inside : goal.put_rows-end-requires-clause-inside
put_rows-end-requires-clause-inside c =
    let slots : RowSlots = map (option_map (λ rows. rows.items)) c.args.slots.now in
    let s = get_or c.args.sources.now c.loop-source.source-index 0 in
    let own : c.rows_of.result.now ≡ unwrap_or (get_or slots s None) [] =
    c.rows_of.ensures ∙ ap (λ (o : Option (List (List ℤ))). unwrap_or o [])
    (seen_in (λ rows. rows.items) c.args.slots.now s c.index-slots-source.result (omega (arith, c.requires.ids, (c.type_inv.sources c.loop-source.source-index).fits)) c.index-slots-source.is) in
    let fits = gathered_fits slots c.args.sources.now c.loop-source.source-index c.loop-source.end (length c.args.pins.now) c.rows_of.result.now (omega arith) own
    c.requires.small c.loop-source.invariant.count in
    omega (arith, fits.1, c.loop-source.auto.pins)

pub put_rows-end-requires-clause-given : goal.put_rows-end-requires-clause-given
put_rows-end-requires-clause-given c =
    let slots : RowSlots = map (option_map (λ rows. rows.items)) c.args.slots.now in
    let s = get_or c.args.sources.now c.loop-source.source-index 0 in
    let own : c.rows_of.result.now ≡ unwrap_or (get_or slots s None) [] =
    c.rows_of.ensures ∙ ap (λ (o : Option (List (List ℤ))). unwrap_or o [])
    (seen_in (λ rows. rows.items) c.args.slots.now s c.index-slots-source.result (omega (arith, c.requires.ids, (c.type_inv.sources c.loop-source.source-index).fits)) c.index-slots-source.is) in
    slot_ticks c.args.ticks slots s c.rows_of.result.now c.requires.given own

pub put_rows-end-requires-clause-taken : goal.put_rows-end-requires-clause-taken
put_rows-end-requires-clause-taken c = ticks_kept c.args.ticks c.args.pins.now c.loop-source.pins c.loop-source.invariant.lengths c.requires.taken

pub loop-source-preserved : goal.loop-source-preserved
loop-source-preserved c =
    let slots : RowSlots = map (option_map (λ rows. rows.items)) c.args.slots.now in
    let s = get_or c.args.sources.now c.loop-source.source-index 0 in
    let own : c.rows_of.result.now ≡ unwrap_or (get_or slots s None) [] =
    c.rows_of.ensures ∙ ap (λ (o : Option (List (List ℤ))). unwrap_or o [])
    (seen_in (λ rows. rows.items) c.args.slots.now s c.index-slots-source.result (omega (arith, c.requires.ids, (c.type_inv.sources c.loop-source.source-index).fits)) c.index-slots-source.is) in
    let i = c.loop-source.source-index in
    let rows = c.rows_of.result.now in
    let fits = gathered_fits slots c.args.sources.now i c.loop-source.end (length c.args.pins.now) rows (omega arith) own c.requires.small c.loop-source.invariant.count in
    record {
      count = c.put_rows-end.ensures.end ∙ fits.0;
      frames = λ tick early.
          row_more (samples_on (slot_frames tick slots)) c.args.sources.now i (frame_at tick (take c.loop-source.end c.loop-source.pins)) _ (frame_at tick rows) (omega arith)
          (sym (source_frame tick slots slots s rows own refl)) (c.loop-source.invariant.frames tick early) (c.put_rows-end.ensures.frames tick early);
      lengths = c.put_rows-end.ensures.lengths ∙ c.loop-source.invariant.lengths;
    }
