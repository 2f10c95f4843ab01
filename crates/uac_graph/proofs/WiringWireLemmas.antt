-- Wires rendered one after the other, each after its sources.
use Rattle.std.proofs.Common.{◌≡◌, ◌∙◌, sym, ap, refl, ℕ, ◌<◌, Bool, true, false, if◌then◌else◌, ℤ, List, [], Option, Some, None, length, map, inl, inr}
use Rattle.uac_entities.specs.declared.entity.Entity.{Entity}
use Rattle.uac_topology_rules.specs.Clusters.{is_input}
use Rattle.uac_topology_rules.specs.Links.{is_clock, signal_sources}
use Rattle.uac_topology_rules.specs.Table.{index_of}
use Rattle.uac_graph.specs.GraphControls.{Controls}
use Rattle.uac_graph.specs.Fitness.{IsSignalGraph, wire_channels}
use Rattle.uac_graph.specs.Meaning.{entity, frame_of, meaning, samples_by}
use Rattle.uac_graph.specs.Wiring.{AreGiven, AreRendered, Frames, frame_on}
use Rattle.uac_graph.proofs.MeaningLemmas.{equation}
use Rattle.uac_graph.proofs.LinksLemmas.{entity_past, index_or_none}

-- an entity that isn't a clock is there
pub signal_below : (entities : List Entity) (id : ℕ) → is_clock (entity entities id).kind ≡ false → index_of entities id < length entities
signal_below entities id signal =
    elim (index_or_none entities id) [
      | inl below ↦ below
      | inr past ↦ absurd (let clock : true ≡ false = ap (λ (e : Entity). is_clock e.kind) (sym (entity_past entities id past)) ∙ signal in cc)
    ]

-- its channels
pub signal_channels : (entities : List Entity) (id : ℕ) → is_clock (entity entities id).kind ≡ false → wire_channels entities id ≡ Some (entity entities id).cluster.channels
unfolding wire_channels
signal_channels entities id signal = ap (λ (b : Bool). if b then None else Some (entity entities id).cluster.channels) signal

-- its sources
pub signal_sources_of : (e : Entity) → is_clock e.kind ≡ false → signal_sources e ≡ e.sources
unfolding signal_sources
signal_sources_of e signal = ap (λ (b : Bool). if b then [] else e.sources) signal

-- nothing rendered
pub rendered_none : (entities : List Entity) (controls : Controls) (ins : ℕ → List ℤ) (frames : Frames) → AreRendered entities controls ins (λ _. false) frames frames
rendered_none entities controls ins frames = record { wires = λ id. refl }

-- the same wires, told otherwise
pub rendered_by : (entities : List Entity) (controls : Controls) (ins : ℕ → List ℤ) (done told : ℕ → Bool) (old new : Frames) → ((id : ℕ) → done id ≡ told id)
    → AreRendered entities controls ins done old new → AreRendered entities controls ins told old new
rendered_by entities controls ins done told old new same rendered = record {
  wires = λ id.
      rendered.wires id ∙ ap (λ (b : Bool). if b then Some (meaning entities controls ins id) else frame_on old id) (same id);
}

-- an input terminal's meaning is what it is given
pub meaning_given : (entities : List Entity) (controls : Controls) (ins : ℕ → List ℤ) (id : ℕ) → IsSignalGraph entities
    → is_input (entity entities id).kind ≡ true → meaning entities controls ins id ≡ ins id
unfolding samples_by
meaning_given entities controls ins id sound input =
    equation entities controls ins id sound
    ∙ ap (λ (b : Bool). if b then ins id
    else frame_of controls id (entity entities id).kind (entity entities id).cluster.channels (map (meaning entities controls ins) (signal_sources (entity entities id)))) input

-- what is the same whether or not
pub either_way : (b : Bool) (o : Option (List ℤ)) → (if b then o else o) ≡ o
either_way true o = refl
either_way false o = refl

-- input terminals keep what they are given
pub given_kept : (entities : List Entity) (controls : Controls) (ins : ℕ → List ℤ) (done : ℕ → Bool) (old new : Frames) → IsSignalGraph entities
    → AreGiven entities ins old → AreRendered entities controls ins done old new → AreGiven entities ins new
given_kept entities controls ins done old new sound given rendered = record {
  inputs = λ id input.
      rendered.wires id
      ∙ ap (λ frame. if done id then Some frame else frame_on old id) (meaning_given entities controls ins id sound input)
      ∙ ap (λ o. if done id then Some (ins id) else o) (given.inputs id input)
      ∙ either_way (done id) (Some (ins id));
}
