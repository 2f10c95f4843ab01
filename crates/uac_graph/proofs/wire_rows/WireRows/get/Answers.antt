use Rattle.std.proofs.Common.{◌≡◌, ◌∙◌, [], ap, arith, map, get_or, subst, unwrap_or, List, Option, None, ℕ, ℤ}
use Rattle.std.specs.Option.{option_map}
use Rattle.std.proofs.lemmas.List.{length-map}
use Rattle.uac_units.specs.SampleRows.{HaveTicks}
use Rattle.uac_graph.specs.TickRows.{RowSlots, RowsById}
use Rattle.uac_graph.proofs.TickRowsLemmas.{seen_in, slot_ticks, source_frame}
use Rattle.uac_graph.proofs.wire_rows.WireRows.get.Goals as goal

pub returns-clause-frames : goal.returns-clause-frames
returns-clause-frames c = λ tick.
    let list = c.self.inside.slots.items in
    let slots : RowSlots = map (option_map (λ rows. rows.items)) list in
    let own : c.rows_of.result.now ≡ unwrap_or (get_or slots c.args.entity None) [] =
    c.rows_of.ensures ∙ ap (λ (o : Option (List (List ℤ))). unwrap_or o [])
    (seen_in (λ rows. rows.items) list c.args.entity c.index.result.now (omega (arith, c.self.invariant.ids, length-map list (option_map (λ rows. rows.items)), c.ranges.entity.fits)) c.index.ensures) in
    source_frame tick slots c.args.self.now.slots c.args.entity c.rows_of.result.now own (ap (λ (w : RowsById). w.slots) c.self.view_is)

pub returns-clause-ticks : goal.returns-clause-ticks
returns-clause-ticks c =
    let list = c.self.inside.slots.items in
    let slots : RowSlots = map (option_map (λ rows. rows.items)) list in
    let own : c.rows_of.result.now ≡ unwrap_or (get_or slots c.args.entity None) [] =
    c.rows_of.ensures ∙ ap (λ (o : Option (List (List ℤ))). unwrap_or o [])
    (seen_in (λ rows. rows.items) list c.args.entity c.index.result.now (omega (arith, c.self.invariant.ids, length-map list (option_map (λ rows. rows.items)), c.ranges.entity.fits)) c.index.ensures) in
    subst (λ (n : ℕ). HaveTicks n c.rows_of.result.now) (ap (λ (w : RowsById). w.room) c.self.view_is)
    (slot_ticks c.self.inside.room slots c.args.entity c.rows_of.result.now c.self.invariant.given own)
