-- What takes a clock or a signal from others has a pin, and nothing has more than 248.
use Rattle.std.proofs.Common.{◌≡◌, ◌≢◌, ℕ, ◌≤◌, ◌<◌, List, [], ◌∷◌, Option, Some, None, length, refl, sym, subst, arith}
use Rattle.std.specs.List.{All, cons_option}
use Rattle.std.proofs.lemmas.List.Elements.{All-nil, All-cons}
use Rattle.uac_descriptor.specs.Contexts.{EachIn, context_after}
use Rattle.uac_descriptor.specs.WellFormed.{IsWellFormed}
use Rattle.uac_descriptor.specs.declared.context.Context.{Context}
use Rattle.uac_descriptor.specs.declared.context.Context.TheVariants as context
use Rattle.uac_descriptor.specs.declared.block.Block as block
use Rattle.uac_descriptor.specs.declared.block.Block.TheVariants as row
use Rattle.uac_entities.specs.Entities.{
  entities_of,
  entity_of,
  clock_source,
  clock_selector,
  clock_multiplier,
  input_terminal,
  output_terminal,
  mixer,
  selector,
  feature,
  effect,
}
use Rattle.uac_entities.specs.declared.entity.Entity.{Entity}
use Rattle.uac_topology_rules.specs.Clusters.{with_own_clusters}
use Rattle.uac_topology_rules.specs.Table.{at, nothing}
use Rattle.uac_topology.specs.Function.{FunctionFields}
use Rattle.uac_topology.specs.FunctionKept.{HasPins, HavePins}
use Rattle.uac_topology.specs.Topology.{IsSoundFunction}
use Rattle.uac_topology.proofs.ClustersLemmas.{length-with_own_clusters, with_own_clusters-at}

same_entity : (a e : Entity) → Some a ≡ Some e → HasPins a → HasPins e
same_entity a e same has = let is : a ≡ e = cc in subst HasPins is has

some_pin : (sources : List ℕ) → length sources ≢ 0 → 1 ≤ length sources
some_pin [] some = absurd (some refl)
some_pin (s ∷ rest) some = omega arith

described : (context : Context) (b : block.Block) (e : Entity) → IsWellFormed context b → entity_of b ≡ Some e → HasPins e
unfolding entity_of
described context (row.ClockSource c) e well is = same_entity (clock_source c) e is ((λ t. absurd (cc)), omega arith)
described context (row.ClockSelector c) e well is = same_entity (clock_selector c) e is ((λ t. some_pin c.sources well.0), well.1)
described context (row.ClockMultiplier c) e well is = same_entity (clock_multiplier c) e is ((λ t. omega arith), omega arith)
described context (row.InputTerminal c) e well is = same_entity (input_terminal c) e is ((λ t. absurd (cc)), omega arith)
described context (row.OutputTerminal c) e well is = same_entity (output_terminal c) e is ((λ t. omega arith), omega arith)
described context (row.Mixer m) e well is = same_entity (mixer m) e is ((λ t. some_pin m.sources well.0), well.1)
described context (row.Selector s) e well is = same_entity (selector s) e is ((λ t. some_pin s.sources well.0), well.1)
described context (row.Feature f) e well is = same_entity (feature f) e is ((λ t. omega arith), omega arith)
described context (row.Effect x) e well is = same_entity (effect x) e is ((λ t. omega arith), omega arith)
described context _ e well is = absurd (cc)

among : (o : Option Entity) (rest : List Entity) → ((e : Entity) → o ≡ Some e → HasPins e) → All HasPins rest → All HasPins (cons_option o rest)
among None rest first others = others
among (Some e) rest first others = All-cons HasPins e rest (first e refl) others

pub entities_have : (context : Context) (blocks : List block.Block) → EachIn IsWellFormed context blocks → HavePins (entities_of blocks)
entities_have context [] each = All-nil HasPins
entities_have context (b ∷ blocks) (well, each) =
    among (entity_of b) (entities_of blocks) (λ e is. described context b e well is) (entities_have (context_after context b) blocks each)

clustered_have : (es : List Entity) → HavePins es → HavePins (with_own_clusters es)
unfolding at
clustered_have es have k d within =
    let below : k < length es = omega (arith, within, length-with_own_clusters es) in
    subst HasPins (sym (with_own_clusters-at es k d below)) (have k nothing below)

pub have_pins : (function : FunctionFields) → IsSoundFunction function → HavePins function.entities
have_pins function sound =
    subst HavePins (sym sound.2.entities) (clustered_have (entities_of sound.0) (entities_have context.DeviceFront sound.0 sound.3.fields))
