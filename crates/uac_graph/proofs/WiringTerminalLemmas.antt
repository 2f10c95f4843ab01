-- The output terminals of a domain, and what input terminals are given.
use Rattle.std.proofs.Common.{◌≡◌, ◌∙◌, sym, ap, subst, refl, ℕ, ◌+◌, ◌<◌, Bool, true, false, ◌||◌, ◌&&◌, ℤ, List, [], Option, Some, None, length, get_or, take, unwrap_or}
use Rattle.std.specs.List.{list_any}
use Rattle.std.specs.Option.{option_map}
use Rattle.std.proofs.lemmas.Bool.{and_parts}
use Rattle.std.proofs.lemmas.List.Folds.{list_any_more}
use Rattle.uac_topology_rules.specs.Walk.{has_walk}
use Rattle.uac_entities.specs.declared.entity.Entity.{Entity}
use Rattle.uac_entities.specs.declared.entity.EntityKind.{EntityKind}
use Rattle.uac_entities.specs.declared.entity.EntityKind.TheVariants as kind
use Rattle.uac_topology_rules.specs.Clusters.{is_input}
use Rattle.uac_topology_rules.specs.Links.{is_clock, signal_links}
use Rattle.uac_topology_rules.specs.Rules.{is_output}
use Rattle.uac_topology_rules.specs.Table.{at, index_of}
use Rattle.uac_graph.specs.Fitness.{IsSignalGraph}
use Rattle.uac_graph.specs.Meaning.{entity}
use Rattle.uac_graph.specs.Needs.{is_end, reaches}
use Rattle.uac_graph.specs.Wiring.{AreGiven, AreWiresOf, Frames, frame_on, samples_on}
use Rattle.uac_topology_rules.proofs.TableIdLemmas.{at_read}
use Rattle.uac_graph.proofs.WiringWireLemmas.{signal_channels}

-- an output terminal is no clock
pub output_signal : (k : EntityKind) → is_output k ≡ true → is_clock k ≡ false
output_signal kind.OutputTerminal e = refl
output_signal _ e = absurd (cc)

-- the entity at an index is the one with its id
pub entity_itself : (entities : List Entity) (index : ℕ) → IsSignalGraph entities → index < length entities → entity entities (at entities index).id ≡ at entities index
unfolding entity
entity_itself entities index sound below = ap (at entities) (sound.distinct index below)

-- an output terminal that stands among the entities is no clock
pub end_signal : (entities slice : List Entity) (domain index : ℕ) (e : Entity) → IsSignalGraph entities → slice ≡ entities → index < length slice → e ≡ get_or slice index e
    → is_end domain e ≡ true → is_clock (entity entities e.id).kind ≡ false
end_signal entities slice domain index e sound same below item end =
    let inside : index < length entities = subst (λ (xs : List Entity). index < length xs) same below in
    let here : at entities index ≡ e = sym (at_read entities index e inside (subst (λ (xs : List Entity). e ≡ get_or xs index e) same item)) in
    subst (λ (f : Entity). is_clock (entity entities f.id).kind ≡ false) here
    (ap (λ (f : Entity). is_clock f.kind) (entity_itself entities index sound inside ∙ here) ∙ output_signal e.kind (and_parts (is_output e.kind) _ end).0)

-- no walk from it goes on for ever
pub end_stops : (entities slice : List Entity) (index : ℕ) (e : Entity) → IsSignalGraph entities → slice ≡ entities → index < length slice → e ≡ get_or slice index e
    → has_walk (signal_links entities) (length slice) (index_of entities e.id) ≡ false
end_stops entities slice index e sound same below item =
    let inside : index < length entities = subst (λ (xs : List Entity). index < length xs) same below in
    let here : at entities index ≡ e = sym (at_read entities index e inside (subst (λ (xs : List Entity). e ≡ get_or xs index e) same item)) in
    ap (λ (xs : List Entity). has_walk (signal_links entities) (length xs) (index_of entities e.id)) same
    ∙ ap (has_walk (signal_links entities) (length entities)) (ap (λ (f : Entity). index_of entities f.id) (sym here) ∙ sound.distinct index inside)
    ∙ sound.acyclic index inside

-- the test of one entity more
pub tested_more : (entities slice : List Entity) (domain index id : ℕ) (e : Entity) → slice ≡ entities → index < length slice → e ≡ get_or slice index e
    → list_any (λ f. is_end domain f && reaches entities (length entities) f.id id) (take (index + 1) slice)
    ≡ (list_any (λ f. is_end domain f && reaches entities (length entities) f.id id) (take index slice) || (is_end domain e && reaches entities (length slice) e.id id))
tested_more entities slice domain index id e same below item =
    let test : Entity → Bool = λ f. is_end domain f && reaches entities (length entities) f.id id in
    list_any_more test slice index e below
    ∙ ap (λ (f : Entity). list_any test (take index slice) || test f) (sym item)
    ∙ ap (λ (xs : List Entity). list_any test (take index slice) || (is_end domain e && reaches entities (length xs) e.id id)) (sym same)

-- an input terminal is no clock
pub input_signal : (k : EntityKind) → is_input k ≡ true → is_clock k ≡ false
input_signal kind.InputTerminal e = refl
input_signal _ e = absurd (cc)

-- the input terminals are given what is on their wires
pub given_held : (entities : List Entity) (frames : Frames) → AreWiresOf entities frames → AreGiven entities (samples_on frames) frames
given_held entities frames fitting = record {
  inputs = λ id input.
      there (frame_on frames id) _ (fitting.channels id ∙ signal_channels entities id (input_signal (entity entities id).kind input));
}
  where
    there : (o : Option (List ℤ)) (n : ℕ) → option_map length o ≡ Some n → o ≡ Some (unwrap_or o [])
    there None n e = absurd (cc)
    there (Some frame) n e = refl
