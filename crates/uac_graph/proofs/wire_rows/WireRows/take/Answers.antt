use Rattle.std.proofs.Common.{◌≡◌, ◌∙◌, ◌<◌, ap, arith, length, map, set, get_or, None}
use Rattle.std.specs.Option.{option_map}
use Rattle.std.proofs.lemmas.List.{length-map, map-set}
use Rattle.uac_graph.specs.TickRows.{RowSlots, RowsById}
use Rattle.uac_graph.proofs.TickRowsLemmas.{seen_in, slot_has, slots_less}
use Rattle.uac_graph.proofs.TickSlotsLemmas.{room_put}
use Rattle.uac_graph.proofs.wire_rows.WireRows.take.Goals as goal

pub invariant_of-self : goal.invariant_of-self
invariant_of-self c =
    let list = c.self.inside.slots.items in
    let id = c.args.entity in
    let slots : RowSlots = map (option_map (λ rows. rows.items)) list in
    let new : RowSlots = map (option_map (λ rows. rows.items)) (set list id c.take.new.self) in
    let back : new ≡ set slots id None =
    ap (λ slot. map (option_map (λ rows. rows.items)) (set list id slot)) c.take.ensures.after ∙ map-set (option_map (λ rows. rows.items)) list id None in
    let there : id < length slots = omega (arith, c.self.invariant.ids, c.ranges.entity.fits) in
    room_put c.self.inside.room slots new c.self.inside.pins.items id None c.self.invariant there back tt

pub returns-clause-rows : goal.returns-clause-rows
returns-clause-rows c =
    let list = c.self.inside.slots.items in
    let id = c.args.entity in
    let slots : RowSlots = map (option_map (λ rows. rows.items)) list in
    let there : id < length list = omega (arith, c.self.invariant.ids, length-map list (option_map (λ rows. rows.items)), c.ranges.entity.fits) in
    let held : option_map (λ rows. rows.items) c.index_mut.result.now ≡ get_or slots id None = seen_in (λ rows. rows.items) list id c.index_mut.result.now there c.index_mut.ensures.value in
    ap (option_map (λ rows. rows.items)) c.take.ensures.value ∙ held ∙ ap (λ (w : RowsById). get_or w.slots id None) c.self.view_is

pub returns-clause-gone : goal.returns-clause-gone
returns-clause-gone c =
    let list = c.self.inside.slots.items in
    let id = c.args.entity in
    let slots : RowSlots = map (option_map (λ rows. rows.items)) list in
    let new : RowSlots = map (option_map (λ rows. rows.items)) (set list id c.take.new.self) in
    let back : new ≡ set slots id None =
    ap (λ slot. map (option_map (λ rows. rows.items)) (set list id slot)) c.take.ensures.after ∙ map-set (option_map (λ rows. rows.items)) list id None in
    let with_slots : RowSlots → RowsById = λ s. record { room = c.self.inside.room; slots = s } in
    ap with_slots back ∙ ap (λ (w : RowsById). record w { slots = set w.slots id None }) c.self.view_is

pub returns-clause-ticks : goal.returns-clause-ticks
returns-clause-ticks c =
    let list = c.self.inside.slots.items in
    let slots : RowSlots = map (option_map (λ rows. rows.items)) list in
    let there : c.args.entity < length list = omega (arith, c.self.invariant.ids, length-map list (option_map (λ rows. rows.items)), c.ranges.entity.fits) in
    let held : option_map (λ rows. rows.items) c.take.result ≡ get_or slots c.args.entity None =
    ap (option_map (λ rows. rows.items)) c.take.ensures.value ∙ seen_in (λ rows. rows.items) list c.args.entity c.index_mut.result.now there c.index_mut.ensures.value in
    let room : c.self.inside.room ≡ c.args.self.now.room = ap (λ (w : RowsById). w.room) c.self.view_is in
    slot_has (λ rows. rows.items) c.args.self.now.room slots c.args.entity c.take.result (slots_less c.args.self.now.room c.self.inside.room slots (omega (arith, room)) c.self.invariant.given) held
