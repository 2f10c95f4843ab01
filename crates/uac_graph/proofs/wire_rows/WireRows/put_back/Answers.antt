use Rattle.std.proofs.Common.{◌≡◌, ◌∙◌, ◌<◌, ap, sym, subst, arith, length, map, set}
use Rattle.std.specs.Option.{IfSome, option_map}
use Rattle.std.proofs.lemmas.List.{map-set}
use Rattle.uac_units.specs.SampleRows.{HaveTicks}
use Rattle.uac_graph.specs.TickRows.{RowSlots, RowsById}
use Rattle.uac_graph.proofs.TickSlotsLemmas.{room_put, ticks_read}
use Rattle.uac_graph.proofs.wire_rows.WireRows.put_back.Goals as goal

pub invariant_of-self : goal.invariant_of-self
invariant_of-self c =
    let list = c.self.inside.slots.items in
    let id = c.args.entity in
    let room = c.self.inside.room in
    let slots : RowSlots = map (option_map (λ rows. rows.items)) list in
    let new : RowSlots = map (option_map (λ rows. rows.items)) (set list id c.args.rows) in
    let back : new ≡ set slots id (option_map (λ rows. rows.items) c.args.rows) = map-set (option_map (λ rows. rows.items)) list id c.args.rows in
    let there : id < length slots = omega (arith, c.self.invariant.ids, c.ranges.entity.fits) in
    let given = ticks_read (λ rows. rows.items) room c.args.rows
    (subst (λ (w : RowsById). IfSome c.args.rows (λ rows. HaveTicks w.room rows.items)) (sym c.self.view_is) c.requires.ticks) in
    room_put room slots new c.self.inside.pins.items id (option_map (λ rows. rows.items) c.args.rows) c.self.invariant there back given

pub returns : goal.returns
returns c =
    let list = c.self.inside.slots.items in
    let id = c.args.entity in
    let slots : RowSlots = map (option_map (λ rows. rows.items)) list in
    let new : RowSlots = map (option_map (λ rows. rows.items)) (set list id c.args.rows) in
    let back : new ≡ set slots id (option_map (λ rows. rows.items) c.args.rows) = map-set (option_map (λ rows. rows.items)) list id c.args.rows in
    let with_slots : RowSlots → RowsById = λ s. record { room = c.self.inside.room; slots = s } in
    ap with_slots back ∙ ap (λ (w : RowsById). record w { slots = set w.slots id (option_map (λ rows. rows.items) c.args.rows) }) c.self.view_is
