-- Frames by id, as the wires keep them.
use Rattle.std.proofs.Common.{◌≡◌, ◌∙◌, sym, refl, ap, arith, ℕ, ◌+◌, ◌<◌, Bool, true, false, eqb, ltb, ℤ, pos, Option, Some, None, List, length, inl, inr, if◌then◌else◌}
use Rattle.std.specs.Option.{option_map}
use Rattle.std.proofs.lemmas.Bool.{cases_eq, cases_lt, eqb-true, eq-eqb, ne_eqb, lt-ltb, le-ltb}
use Rattle.std.proofs.lemmas.List.{length-replicate}
use Rattle.std.proofs.lemmas.List.Sums.{passes_at_first}
use Rattle.uac_entities.specs.declared.entity.Entity.{Entity}
use Rattle.uac_topology_rules.specs.Links.{is_clock}
use Rattle.uac_topology_rules.specs.Table.{at, index_of, nothing}
use Rattle.uac_graph.specs.Fitness.{IsSignalGraph, wire_channels}
use Rattle.uac_graph.specs.Meaning.{entity}
use Rattle.uac_graph.specs.Wiring.{AreSilent, AreWiresOf, Frames, frame_on, silence}
use Rattle.uac_graph.proofs.LinksLemmas.{entity_past, index_or_none}

-- the wires of the entities below an index are silent, and there are no others
pub record AreSilentBelow (entities : List Entity) (index : ℕ) (frames : Frames) : Type 0 where
  pub wires : (id : ℕ) → frame_on frames id ≡ (if ltb (index_of entities id) index then option_map silence (wire_channels entities id) else None)

-- the entity at an index is the first with its id
pub id_at : (entities : List Entity) (id : ℕ) → index_of entities id < length entities → (at entities (index_of entities id)).id ≡ id
unfolding at index_of
id_at entities id below = eqb-true (at entities (index_of entities id)).id id (passes_at_first (λ (e : Entity). eqb e.id id) entities nothing below)

-- a number below the next one and not this one is below this one
below_next : (p index : ℕ) → (p ≡ index → ⊥) → ltb p index ≡ ltb p (index + 1)
below_next p index other =
    elim (cases_lt p index) [
      | inl below ↦ lt-ltb p index below ∙ sym (lt-ltb p (index + 1) (omega arith))
      | inr past ↦ le-ltb p index past ∙ sym (le-ltb p (index + 1) (omega arith))
    ]

-- one wire more, or none
pub silent_more : (entities : List Entity) (index : ℕ) (old new : Frames)
    → ((id : ℕ) → frame_on new id ≡ (if eqb (index_of entities id) index then option_map silence (wire_channels entities id) else frame_on old id))
    → AreSilentBelow entities index old → AreSilentBelow entities (index + 1) new
silent_more entities index old new e before = record {
  wires = λ id.
      let p = index_of entities id in
      let silent = option_map silence (wire_channels entities id) in
      elim (cases_eq p index) [
        | inl same ↦
            e id ∙ ap (λ (b : Bool). if b then silent else frame_on old id) (eq-eqb p index same)
            ∙ sym (ap (λ (b : Bool). if b then silent else None) (lt-ltb p (index + 1) (omega arith)))
        | inr other ↦
            e id ∙ ap (λ (b : Bool). if b then silent else frame_on old id) (ne_eqb p index other)
            ∙ before.wires id ∙ ap (λ (b : Bool). if b then silent else None) (below_next p index other)
      ];
}

-- no wires yet
pub silent_none : (entities : List Entity) (frames : Frames) → ((id : ℕ) → frame_on frames id ≡ None) → AreSilentBelow entities 0 frames
silent_none entities frames none = record {
  wires = λ id. none id ∙ sym (ap (λ (b : Bool). if b then option_map silence (wire_channels entities id) else None) (le-ltb (index_of entities id) 0 (omega arith)));
}

-- the channels of the entity at an index
pub channels_at : (entities : List Entity) (id index : ℕ) → index_of entities id ≡ index
    → wire_channels entities id ≡ (if is_clock (at entities index).kind then None else Some (at entities index).cluster.channels)
unfolding wire_channels entity
channels_at entities id index here = ap (λ (p : ℕ). if is_clock (at entities p).kind then None else Some (at entities p).cluster.channels) here

-- a clock entity has no wire
pub silent_clock : (entities : List Entity) (index : ℕ) (frames : Frames) → index < length entities → is_clock (at entities index).kind ≡ true
    → AreSilentBelow entities index frames → AreSilentBelow entities (index + 1) frames
silent_clock entities index frames below clock before = silent_more entities index frames frames same before
  where
    same : (id : ℕ) → frame_on frames id ≡ (if eqb (index_of entities id) index then option_map silence (wire_channels entities id) else frame_on frames id)
    same id =
        let p = index_of entities id in
        let silent = option_map silence (wire_channels entities id) in
        elim (cases_eq p index) [
          | inl here ↦
              before.wires id
              ∙ ap (λ (b : Bool). if b then silent else None) (le-ltb p index (omega arith))
              ∙ sym (
              ap (λ (b : Bool). if b then silent else frame_on frames id) (eq-eqb p index here)
              ∙ ap (option_map silence) (channels_at entities id index here)
              ∙ ap (λ (b : Bool). option_map silence (if b then None else Some (at entities index).cluster.channels)) clock)
          | inr other ↦ sym (ap (λ (b : Bool). if b then silent else frame_on frames id) (ne_eqb p index other))
        ]

-- the wire of the entity at an index is put there, silent
pub silent_wire : (entities : List Entity) (index : ℕ) (old new : Frames) (frame : List ℤ)
    → IsSignalGraph entities → index < length entities → is_clock (at entities index).kind ≡ false → frame ≡ silence (at entities index).cluster.channels
    → ((id : ℕ) → frame_on new id ≡ (if eqb (at entities index).id id then Some frame else frame_on old id))
    → AreSilentBelow entities index old → AreSilentBelow entities (index + 1) new
silent_wire entities index old new frame sound below signal silent updates before =
    silent_more entities index old new (λ id. updates id ∙ same id (frame_on old id)) before
  where
    same : (id : ℕ) (other : Option (List ℤ)) → (if eqb (at entities index).id id then Some frame else other)
        ≡ (if eqb (index_of entities id) index then option_map silence (wire_channels entities id) else other)
    same id o =
        let p = index_of entities id in
        let wire = option_map silence (wire_channels entities id) in
        elim (cases_eq p index) [
          | inl here ↦
              (let named : (at entities index).id ≡ id = ap (λ (q : ℕ). (at entities q).id) (sym here) ∙ id_at entities id (omega arith) in
              ap (λ (b : Bool). if b then Some frame else o) (eq-eqb (at entities index).id id named)
              ∙ ap Some silent
              ∙ sym (
              ap (λ (b : Bool). if b then wire else o) (eq-eqb p index here)
              ∙ ap (option_map silence) (channels_at entities id index here)
              ∙ ap (λ (b : Bool). option_map silence (if b then None else Some (at entities index).cluster.channels)) signal))
          | inr other ↦
              (let apart : (at entities index).id ≡ id → ⊥ = λ e. other (ap (index_of entities) (sym e) ∙ sound.distinct index below) in
              ap (λ (b : Bool). if b then Some frame else o) (ne_eqb (at entities index).id id apart)
              ∙ sym (ap (λ (b : Bool). if b then wire else o) (ne_eqb p index other)))
        ]

-- all wires are silent
pub silent_all : (entities : List Entity) (frames : Frames) → AreSilentBelow entities (length entities) frames → AreSilent entities frames
unfolding wire_channels
silent_all entities frames all = record {
  wires = λ id. elim (index_or_none entities id) [
    | inl below ↦
        all.wires id ∙ ap (λ (b : Bool). if b then option_map silence (wire_channels entities id) else None) (lt-ltb (index_of entities id) (length entities) below)
    | inr past ↦
        all.wires id
        ∙ ap (λ (b : Bool). if b then option_map silence (wire_channels entities id) else None) (le-ltb (index_of entities id) (length entities) (omega arith))
        ∙ sym (ap (λ (e : Entity). option_map silence (if is_clock e.kind then None else Some e.cluster.channels)) (entity_past entities id past))
  ];
}

-- silent wires have a sample for each channel
pub silent_fits : (entities : List Entity) (frames : Frames) → AreSilent entities frames → AreWiresOf entities frames
silent_fits entities frames silent = record { channels = λ id. ap (option_map length) (silent.wires id) ∙ counted (wire_channels entities id) }
  where
    counted : (o : Option ℕ) → option_map length (option_map silence o) ≡ o
    counted None = refl
    counted (Some n) = ap Some (length-replicate n (pos 0))

-- a frame of as many samples as stood on the wire leaves the wires fitting
pub set_fits : (entities : List Entity) (old new : Frames) (terminal : ℕ) (frame : List ℤ) → option_map length (frame_on old terminal) ≡ Some (length frame)
    → ((id : ℕ) → frame_on new id ≡ (if eqb terminal id then Some frame else frame_on old id)) → AreWiresOf entities old → AreWiresOf entities new
set_fits entities old new terminal frame same set fitting = record {
  channels = λ id. elim (cases_eq terminal id) [
    | inl here ↦
        ap (option_map length) (set id ∙ ap (λ (b : Bool). if b then Some frame else frame_on old id) (eq-eqb terminal id here))
        ∙ sym same ∙ fitting.channels terminal ∙ ap (wire_channels entities) here
    | inr other ↦
        ap (option_map length) (set id ∙ ap (λ (b : Bool). if b then Some frame else frame_on old id) (ne_eqb terminal id other)) ∙ fitting.channels id
  ];
}

-- a wire whose samples are remade, as many as there were, keeps its channels
pub remade_fits : (entities : List Entity) (old new : Frames) (terminal : ℕ) (remade : List ℤ → List ℤ)
    → ((samples : List ℤ) → length (remade samples) ≡ length samples)
    → ((id : ℕ) → frame_on new id ≡ (if eqb terminal id then option_map remade (frame_on old terminal) else frame_on old id))
    → AreWiresOf entities old → AreWiresOf entities new
remade_fits entities old new terminal remade as_many set fitting = record {
  channels = λ id. elim (cases_eq terminal id) [
    | inl here ↦
        ap (option_map length) (set id ∙ ap (λ (b : Bool). if b then option_map remade (frame_on old terminal) else frame_on old id) (eq-eqb terminal id here))
        ∙ counted (frame_on old terminal) ∙ fitting.channels terminal ∙ ap (wire_channels entities) here
    | inr other ↦
        ap (option_map length) (set id ∙ ap (λ (b : Bool). if b then option_map remade (frame_on old terminal) else frame_on old id) (ne_eqb terminal id other))
        ∙ fitting.channels id
  ];
}
  where
    counted : (o : Option (List ℤ)) → option_map length (option_map remade o) ≡ option_map length o
    counted None = refl
    counted (Some samples) = ap Some (as_many samples)

-- a wire that is hushed keeps its channels
pub hushed_fits : (entities : List Entity) (old new : Frames) (terminal : ℕ)
    → ((id : ℕ) → frame_on new id
    ≡ (if eqb terminal id then option_map (λ samples. silence (length samples)) (frame_on old terminal) else frame_on old id))
    → AreWiresOf entities old → AreWiresOf entities new
hushed_fits entities old new terminal =
    remade_fits entities old new terminal (λ samples. silence (length samples)) (λ samples. length-replicate (length samples) (pos 0))
