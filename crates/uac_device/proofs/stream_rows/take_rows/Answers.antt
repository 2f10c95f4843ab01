use Rattle.std.proofs.Common.{◌≡◌, ◌∙◌, ◌++◌, ap, sym, arith, length, take, drop, get_or, List, Some, None, ℤ}
use Rattle.std.specs.Option.{option_map}
use Rattle.uac_units.specs.SampleRows.{row_lengths}
use Rattle.uac_graph.specs.TickRows.{RowsById}
use Rattle.uac_device.proofs.ListChangeLemmas.{put_back}
use Rattle.uac_device.proofs.StreamRowsLemmas.{back_ticks, frames_back, held_channels, held_ticks, lengths_back, none_held}
use Rattle.uac_device.proofs.stream_rows.take_rows.Goals as goal

pub take_rows-requires-clause-channels : goal.take_rows-requires-clause-channels
take_rows-requires-clause-channels c =
    let there : Some c.in-Some.held.items ≡ get_or c.args.rows.now.slots c.args.terminal None =
    ap (option_map (λ rows. rows.items)) (sym c.in-Some.is) ∙ c.take-slot.ensures.rows in
    ap length c.as_mut_slice.ensures.value
    ∙ held_channels c.args.rows.now.slots c.args.terminal c.args.flow.now.stream.format.channels c.in-Some.held.items there c.requires.wired

pub unreachable-requires : goal.unreachable-requires
unreachable-requires c =
    none_held c.args.rows.now.slots c.args.terminal c.args.flow.now.stream.format.channels
    (ap (option_map (λ rows. rows.items)) (sym c.in-None.is) ∙ c.take-slot.ensures.rows) c.requires.wired

pub put_back-requires : goal.put_back-requires
put_back-requires c =
    let new : List (List ℤ) = c.take_rows.new.rows in
    let back : List (List ℤ) = take c.in-Some.held.len (new ++ drop (length new) c.in-Some.held.items) in
    record {
      ticks =
          back_ticks c.args.rows.now.room c.take-slot.new.self.room c.in-Some.held.items new back (ap (λ (w : RowsById). w.room) c.take-slot.ensures.gone)
          (put_back c.in-Some.held.len new c.in-Some.held.items (omega (arith, c.take_rows.auto.rows, c.as_mut_slice.ensures.len)))
          (c.take_rows.ensures.lengths ∙ ap row_lengths c.as_mut_slice.ensures.value)
          (held_ticks (λ rows. rows.items) c.args.rows.now.room c.take-slot.result c.in-Some.held c.in-Some.is c.take-slot.ensures.ticks);
    }

pub returns-clause-frames : goal.returns-clause-frames
returns-clause-frames c o stands t early id =
    let new : List (List ℤ) = c.take_rows.new.rows in
    let back : List (List ℤ) = take c.in-Some.held.len (new ++ drop (length new) c.in-Some.held.items) in
    let there : Some c.in-Some.held.items ≡ get_or c.args.rows.now.slots c.args.terminal None =
    ap (option_map (λ rows. rows.items)) (sym c.in-Some.is) ∙ c.take-slot.ensures.rows in
    frames_back c.args.rows.now.slots c.take-slot.new.self.slots c.put_back.new.self.slots c.args.terminal c.in-Some.held.items new back there
    (ap (λ (w : RowsById). w.slots) c.take-slot.ensures.gone) (ap (λ (w : RowsById). w.slots) c.put_back.ensures)
    (put_back c.in-Some.held.len new c.in-Some.held.items (omega (arith, c.take_rows.auto.rows, c.as_mut_slice.ensures.len))) t _
    (c.take_rows.ensures.frames o stands t early) id

pub returns-clause-lengths : goal.returns-clause-lengths
returns-clause-lengths c =
    let new : List (List ℤ) = c.take_rows.new.rows in
    let back : List (List ℤ) = take c.in-Some.held.len (new ++ drop (length new) c.in-Some.held.items) in
    let there : Some c.in-Some.held.items ≡ get_or c.args.rows.now.slots c.args.terminal None =
    ap (option_map (λ rows. rows.items)) (sym c.in-Some.is) ∙ c.take-slot.ensures.rows in
    lengths_back c.args.rows.now.slots c.take-slot.new.self.slots c.put_back.new.self.slots c.args.terminal c.in-Some.held.items new back there
    (ap (λ (w : RowsById). w.slots) c.take-slot.ensures.gone) (ap (λ (w : RowsById). w.slots) c.put_back.ensures)
    (put_back c.in-Some.held.len new c.in-Some.held.items (omega (arith, c.take_rows.auto.rows, c.as_mut_slice.ensures.len)))
    (c.take_rows.ensures.lengths ∙ ap row_lengths c.as_mut_slice.ensures.value)
