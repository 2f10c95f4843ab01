-- A feature, an effect and an output terminal have one source: their blocks name one.
use Rattle.std.proofs.Common.{◌≡◌, subst, refl, arith, ℕ, zero, suc, ◌<◌, List, [], ◌∷◌, Option, Some, None, length, get_or}
use Rattle.std.specs.List.{cons_option}
use Rattle.uac_descriptor.specs.declared.block.Block as block
use Rattle.uac_descriptor.specs.declared.block.Block.TheVariants as row
use Rattle.uac_entities.specs.Entities.{
  entities_of,
  entity_of,
  clock_source,
  clock_selector,
  clock_multiplier,
  input_terminal,
  output_terminal,
  mixer,
  selector,
  feature,
  effect,
}
use Rattle.uac_entities.specs.declared.entity.Entity.{Entity}
use Rattle.uac_entities.specs.declared.entity.EntityKind.{EntityKind}
use Rattle.uac_entities.specs.declared.entity.EntityKind.TheVariants as kind

abbrev pub IsOne : EntityKind → List ℕ → Type 0
IsOne kind.Feature sources = length sources ≡ 1
IsOne kind.Effect sources = length sources ≡ 1
IsOne kind.OutputTerminal sources = length sources ≡ 1
IsOne _ sources = Unit {0}

same_entity : (a e : Entity) → Some a ≡ Some e → IsOne a.kind a.sources → IsOne e.kind e.sources
same_entity a e same one = let is : a ≡ e = cc in subst (λ (x : Entity). IsOne x.kind x.sources) is one

described : (b : block.Block) (e : Entity) → entity_of b ≡ Some e → IsOne e.kind e.sources
unfolding entity_of
described (row.ClockSource c) e is = same_entity (clock_source c) e is tt
described (row.ClockSelector c) e is = same_entity (clock_selector c) e is tt
described (row.ClockMultiplier c) e is = same_entity (clock_multiplier c) e is tt
described (row.InputTerminal t) e is = same_entity (input_terminal t) e is tt
described (row.OutputTerminal t) e is = same_entity (output_terminal t) e is refl
described (row.Mixer m) e is = same_entity (mixer m) e is tt
described (row.Selector s) e is = same_entity (selector s) e is tt
described (row.Feature f) e is = same_entity (feature f) e is refl
described (row.Effect x) e is = same_entity (effect x) e is refl
described _ e is = absurd (cc)

among : (o : Option Entity) (rest : List Entity) (d : Entity) → ((e : Entity) → o ≡ Some e → IsOne e.kind e.sources)
    → ((k : ℕ) → k < length rest → IsOne (get_or rest k d).kind (get_or rest k d).sources)
    → (k : ℕ) → k < length (cons_option o rest) → IsOne (get_or (cons_option o rest) k d).kind (get_or (cons_option o rest) k d).sources
among None rest d first others k below = others k below
among (Some e) rest d first others zero below = first e refl
among (Some e) rest d first others (suc k) below = others k (omega arith)

pub one_source : (blocks : List block.Block) (d : Entity) (k : ℕ) → k < length (entities_of blocks)
    → IsOne (get_or (entities_of blocks) k d).kind (get_or (entities_of blocks) k d).sources
one_source [] d k below = absurd (omega arith)
one_source (b ∷ blocks) d k below = among (entity_of b) (entities_of blocks) d (described b) (one_source blocks d) k below
