-- Rows that hold the frames of the wires, and wires that get those of a tick, entity by entity.
use Rattle.std.proofs.Common.{◌≡◌, ◌∙◌, sym, refl, ap, subst, arith, ℕ, ◌+◌, ◌<◌, ◌≤◌, ◌==◌, ◌||◌, Bool, true, false, if◌then◌else◌, ℤ, List, [], Option, Some, None, length, get_or, inl, inr, unwrap_or}
use Rattle.std.specs.Option.{option_map}
use Rattle.std.proofs.lemmas.Bool.{and_parts, cases_eq, cases_lt, eq-eqb, ne_eqb}
use Rattle.uac_entities.specs.declared.entity.Entity.{Entity}
use Rattle.uac_topology_rules.specs.Clusters.{is_input}
use Rattle.uac_topology_rules.specs.Links.{is_clock}
use Rattle.uac_topology_rules.specs.Rules.{is_output}
use Rattle.uac_topology_rules.specs.Table.{at, index_of}
use Rattle.uac_topology_rules.proofs.TableIdLemmas.{at_read}
use Rattle.uac_graph.specs.Fitness.{IsSignalGraph, wire_channels}
use Rattle.uac_graph.specs.Meaning.{entity}
use Rattle.uac_graph.specs.Needs.{is_end}
use Rattle.uac_graph.specs.TickRows.{AreRowsOf, RowsById, frames_at, slot_lengths}
use Rattle.uac_graph.specs.Wiring.{AreWiresOf, Frames, frame_on, samples_on}
use Rattle.uac_graph.proofs.TickRowsLemmas.{count_seen}
use Rattle.uac_graph.proofs.WiringLemmas.{id_at}
use Rattle.uac_graph.proofs.WiringTerminalLemmas.{entity_itself, input_signal, output_signal}
use Rattle.uac_graph.proofs.WiringWireLemmas.{signal_below, signal_channels}

-- ---- how many channels stand in the rows

-- as many at each tick, and as many where rows are as long
pub counted_at : (before after : ℕ) (old new : RowsById) (id : ℕ) → slot_lengths new.slots ≡ slot_lengths old.slots
    → option_map length (frame_on (frames_at after new) id) ≡ option_map length (frame_on (frames_at before old) id)
counted_at before after old new id same =
    count_seen after new.slots id
    ∙ ap (λ (ls : List (Option (List ℕ))). option_map length (get_or ls id None)) same
    ∙ sym (count_seen before old.slots id)

-- a frame whose samples are counted is there
pub counted_there : (channels : ℕ) (o : Option (List ℤ)) → option_map length o ≡ Some channels → o ≡ Some (unwrap_or o [])
counted_there channels None counted = absurd (cc)
counted_there channels (Some frame) counted = refl

counted_few : (channels : ℕ) (o : Option (List ℤ)) → option_map length o ≡ Some channels → length (unwrap_or o []) ≡ channels
counted_few channels None counted = absurd (cc)
counted_few channels (Some frame) counted = ap (λ (o : Option ℕ). unwrap_or o 0) counted

none_counted : (o : Option (List ℤ)) → option_map length o ≡ None → o ≡ None
none_counted None none = refl
none_counted (Some frame) none = absurd (cc)

-- an entity that is no clock has its frame at each tick
pub row_there : (entities : List Entity) (rows : RowsById) (tick id : ℕ) → AreRowsOf entities rows → is_clock (entity entities id).kind ≡ false
    → frame_on (frames_at tick rows) id ≡ Some (samples_on (frames_at tick rows) id)
row_there entities rows tick id fitting signal =
    counted_there (entity entities id).cluster.channels (frame_on (frames_at tick rows) id) ((fitting tick).channels id ∙ signal_channels entities id signal)

-- of at most 32 samples
pub row_few : (entities : List Entity) (rows : RowsById) (tick id : ℕ) → IsSignalGraph entities → AreRowsOf entities rows → is_clock (entity entities id).kind ≡ false
    → length (samples_on (frames_at tick rows) id) ≤ 32
unfolding entity
row_few entities rows tick id sound fitting signal =
    let most = sound.most (index_of entities id) (signal_below entities id signal) signal in
    let long : length (samples_on (frames_at tick rows) id) ≡ (entity entities id).cluster.channels =
    counted_few (entity entities id).cluster.channels (frame_on (frames_at tick rows) id) ((fitting tick).channels id ∙ signal_channels entities id signal) in
    subst (λ (n : ℕ). n ≤ 32) (sym long) most

-- whatever the id
pub rows_are_few : (entities : List Entity) (rows : RowsById) (tick : ℕ) → IsSignalGraph entities → AreRowsOf entities rows → (id : ℕ)
    → length (samples_on (frames_at tick rows) id) ≤ 32
unfolding wire_channels
rows_are_few entities rows tick sound fitting id = by (is_clock (entity entities id).kind) refl
  where
    by : (b : Bool) → is_clock (entity entities id).kind ≡ b → length (samples_on (frames_at tick rows) id) ≤ 32
    by false signal = row_few entities rows tick id sound fitting signal
    by true clock =
        let none : frame_on (frames_at tick rows) id ≡ None =
        none_counted (frame_on (frames_at tick rows) id)
        ((fitting tick).channels id ∙ ap (λ (b : Bool). if b then None else Some (entity entities id).cluster.channels) clock) in
        let empty : length (samples_on (frames_at tick rows) id) ≡ 0 = ap (λ (o : Option (List ℤ)). length (unwrap_or o [])) none in
        omega (arith, empty)

-- ---- a terminal holds its frame

pub held_here : (terminal id : ℕ) (frame : List ℤ) (wires : Frames) (before new : Option (List ℤ)) → frame_on wires terminal ≡ Some frame
    → new ≡ (if terminal == id then Some frame else before) → new ≡ (if terminal == id then frame_on wires id else before)
held_here terminal id frame wires before new here set =
    set
    ∙ elim (cases_eq terminal id) [
      | inl same ↦
          ap (λ (b : Bool). if b then Some frame else before) (eq-eqb terminal id same)
          ∙ sym here
          ∙ ap (frame_on wires) same
          ∙ sym (ap (λ (b : Bool). if b then frame_on wires id else before) (eq-eqb terminal id same))
      | inr other ↦
          ap (λ (b : Bool). if b then Some frame else before) (ne_eqb terminal id other)
          ∙ sym (ap (λ (b : Bool). if b then frame_on wires id else before) (ne_eqb terminal id other))
    ]

-- one without a wire has no rows
pub held_none : (terminal id : ℕ) (wires rows : Frames) → frame_on wires terminal ≡ None
    → option_map length (frame_on rows terminal) ≡ option_map length (frame_on wires terminal)
    → frame_on rows id ≡ (if terminal == id then frame_on wires id else frame_on rows id)
held_none terminal id wires rows none alike =
    elim (cases_eq terminal id) [
      | inl same ↦
          ap (frame_on rows) (sym same)
          ∙ none_counted (frame_on rows terminal) (alike ∙ ap (option_map length) none)
          ∙ sym none
          ∙ ap (frame_on wires) same
          ∙ sym (ap (λ (b : Bool). if b then frame_on wires id else frame_on rows id) (eq-eqb terminal id same))
      | inr other ↦ sym (ap (λ (b : Bool). if b then frame_on wires id else frame_on rows id) (ne_eqb terminal id other))
    ]

-- ---- entity by entity

-- an id below the next index and not of this entity is below this index
earlier : (entities : List Entity) (index id : ℕ) (e : Entity) → index < length entities → e ≡ get_or entities index e → (e.id ≡ id → ⊥)
    → index_of entities id < index + 1 → index_of entities id < index
earlier entities index id e below is other inside =
    elim (cases_lt (index_of entities id) index) [
      | inl less ↦ less
      | inr past ↦
          (let same : index_of entities id ≡ index = omega (arith, inside, past) in
          absurd (
          other (
          ap (λ (f : Entity). f.id) (at_read entities index e below is)
          ∙ ap (λ (k : ℕ). (at entities k).id) (sym same)
          ∙ id_at entities id (omega (arith, same, below)))))
    ]

-- one more that passes a test is reached
pub reached_more : (entities : List Entity) (test : Entity → Bool) (index : ℕ) (e : Entity) (old new want : ℕ → Option (List ℤ))
    → index < length entities → e ≡ get_or entities index e
    → ((id : ℕ) → new id ≡ (if e.id == id then want id else old id))
    → ((id : ℕ) → index_of entities id < index → test (entity entities id) ≡ true → old id ≡ want id)
    → (id : ℕ) → index_of entities id < index + 1 → test (entity entities id) ≡ true → new id ≡ want id
reached_more entities test index e old new want below is set before id inside passes =
    set id
    ∙ elim (cases_eq e.id id) [
      | inl here ↦ ap (λ (b : Bool). if b then want id else old id) (eq-eqb e.id id here)
      | inr other ↦
          ap (λ (b : Bool). if b then want id else old id) (ne_eqb e.id id other) ∙ before id (earlier entities index id e below is other inside) passes
    ]

-- one that doesn't pass it needn't be
pub reached_past : (entities : List Entity) (test : Entity → Bool) (index : ℕ) (e : Entity) (old want : ℕ → Option (List ℤ))
    → index < length entities → e ≡ get_or entities index e → test e ≡ false
    → ((id : ℕ) → index_of entities id < index → test (entity entities id) ≡ true → old id ≡ want id)
    → (id : ℕ) → index_of entities id < index + 1 → test (entity entities id) ≡ true → old id ≡ want id
unfolding entity
reached_past entities test index e old want below is fails before id inside passes =
    elim (cases_lt (index_of entities id) index) [
      | inl less ↦ before id less passes
      | inr past ↦
          (let same : index_of entities id ≡ index = omega (arith, inside, past) in
          let clash : true ≡ false =
          sym passes ∙ ap (λ (k : ℕ). test (at entities k)) same ∙ ap test (sym (at_read entities index e below is)) ∙ fails in
          absurd (cc))
    ]

-- all that pass it and have a wire are
pub reached_all : (entities : List Entity) (test : Entity → Bool) (index : ℕ) (new want : ℕ → Option (List ℤ)) → length entities ≤ index
    → ((e : Entity) → test e ≡ true → is_clock e.kind ≡ false)
    → ((id : ℕ) → index_of entities id < index → test (entity entities id) ≡ true → new id ≡ want id)
    → (id : ℕ) → test (entity entities id) ≡ true → new id ≡ want id
reached_all entities test index new want past signal before id passes =
    let below = signal_below entities id (signal (entity entities id) passes) in
    before id (omega (arith, below, past)) passes

-- those that don't pass it are left as they were
pub left_more : (entities : List Entity) (test : Entity → Bool) (index : ℕ) (e : Entity) (start old new want : ℕ → Option (List ℤ)) → IsSignalGraph entities
    → index < length entities → e ≡ get_or entities index e → test e ≡ true
    → ((id : ℕ) → new id ≡ (if e.id == id then want id else old id))
    → ((id : ℕ) → test (entity entities id) ≡ false → old id ≡ start id)
    → (id : ℕ) → test (entity entities id) ≡ false → new id ≡ start id
left_more entities test index e start old new want sound below is passes set before id fails =
    elim (cases_eq e.id id) [
      | inl here ↦
          (let clash : true ≡ false =
          sym passes ∙ ap test (item_itself entities index e sound below is) ∙ ap (λ (n : ℕ). test (entity entities n)) here ∙ fails in
          absurd (cc))
      | inr other ↦ set id ∙ ap (λ (b : Bool). if b then want id else old id) (ne_eqb e.id id other) ∙ before id fails
    ]
  where
    item_itself : (entities : List Entity) (index : ℕ) (e : Entity) → IsSignalGraph entities → index < length entities → e ≡ get_or entities index e
        → e ≡ entity entities e.id
    item_itself entities index e sound below is =
        let here = at_read entities index e below is in
        here ∙ sym (entity_itself entities index sound below) ∙ ap (λ (f : Entity). entity entities f.id) (sym here)

-- ---- the terminals whose frames are kept

abbrev pub is_kept : ℕ → Entity → Bool
is_kept domain e = is_input e.kind || is_end domain e

or_right : (a b : Bool) → b ≡ true → (a || b) ≡ true
or_right true b right = refl
or_right false b right = right

pub kept_signal : (domain : ℕ) (e : Entity) → is_kept domain e ≡ true → is_clock e.kind ≡ false
kept_signal domain e kept = by (is_input e.kind) refl
  where
    by : (b : Bool) → is_input e.kind ≡ b → is_clock e.kind ≡ false
    by true input = input_signal e.kind input
    by false other =
        output_signal e.kind (and_parts (is_output e.kind) _ (sym (ap (λ (b : Bool). b || is_end domain e) other) ∙ kept)).0

pub kept_input : (domain : ℕ) (e : Entity) → is_input e.kind ≡ true → is_kept domain e ≡ true
kept_input domain e input = ap (λ (b : Bool). b || is_end domain e) input

pub kept_end : (domain : ℕ) (e : Entity) → is_end domain e ≡ true → is_kept domain e ≡ true
kept_end domain e end = or_right (is_input e.kind) (is_end domain e) end

-- an entity of the list that has such a frame is no clock
pub item_signal : (items entities : List Entity) (domain index : ℕ) (e : Entity) → items ≡ entities → IsSignalGraph items → index < length items
    → e ≡ get_or items index e → is_kept domain e ≡ true → is_clock (entity entities e.id).kind ≡ false
item_signal items entities domain index e same sound below is kept =
    let here = at_read items index e below is in
    let own : entity items e.id ≡ e = ap (λ (f : Entity). entity items f.id) here ∙ entity_itself items index sound below ∙ sym here in
    subst (λ (es : List Entity). is_clock (entity es e.id).kind ≡ false) same (ap (λ (f : Entity). is_clock f.kind) own ∙ kept_signal domain e kept)

-- its wire has as many samples as its rows
pub item_alike : (entities : List Entity) (wires : Frames) (rows : RowsById) (tick id : ℕ) → AreWiresOf entities wires → AreRowsOf entities rows
    → is_clock (entity entities id).kind ≡ false → option_map length (frame_on wires id) ≡ Some (length (samples_on (frames_at tick rows) id))
item_alike entities wires rows tick id fitting fit signal =
    fitting.channels id ∙ sym ((fit tick).channels id) ∙ ap (option_map length) (row_there entities rows tick id fit signal)
