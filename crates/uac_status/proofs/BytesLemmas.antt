-- The keys of a function's elements are of bytes, where the function is that of bytes.
use Rattle.std.proofs.Common.{arith, ◌≡◌, refl, subst, ℕ, ◌*◌, ◌<◌, ◌≤◌, ◌==◌, Bool, true, false, List, [], ◌∷◌, ◌++◌, length, slice_index, sum, suc, Option, Some, None, IfSome, if◌then◌else◌}
use Rattle.std.specs.List.{AllByRecursion, cons_option}
use Rattle.std.proofs.Math.Seq.{drop-append_seam}
use Rattle.std.proofs.lemmas.Bool.{leb-true}
use Rattle.std.proofs.lemmas.List.Elements.{recursion_from_All}
use Rattle.uac_descriptor.specs.BlockParsing.{AreBytes}
use Rattle.uac_descriptor.specs.Spelling.{spelling}
use Rattle.uac_grammar_rules.specs.Sentence.{spellings}
use Rattle.uac_descriptor.specs.declared.block.Block as block
use Rattle.uac_descriptor.specs.declared.block.Block.TheVariants as row
use Rattle.uac_descriptor.proofs.BlockParsingLemmas.{AreBytes-drop}
use Rattle.uac_entities.specs.Entities.{entity_of, entities_of}
use Rattle.uac_entities.specs.EntityInterfaces.{entity_by_id}
use Rattle.uac_entities.specs.declared.entity.Entity.{Entity}
use Rattle.uac_entities.specs.declared.entity.EntityKind.{EntityKind}
use Rattle.uac_entities.specs.declared.entity.EntityKind.TheVariants as kind
use Rattle.uac_topology_rules.specs.Links.{is_clock}
use Rattle.uac_topology.specs.Function.{FunctionFields}
use Rattle.uac_topology.specs.Topology.{IsSoundFunction}
use Rattle.uac_topology.proofs.FunctionKeptChannelLemmas.{have_channels}
use Rattle.uac_store.specs.ControlTable.{IsSmall, count_by, selectors_of, stores_value}
use Rattle.uac_store.specs.StoreControls.{count_of, pins_of}
use Rattle.uac_store.proofs.StoreControlsSoundLemmas.{keyed}
use Rattle.uac_request.proofs.KeyedLemmas.{id_of_named}
use Rattle.uac_mixer.specs.declared.element.Element.{Element}
use Rattle.uac_mixer.proofs.MixerElementsLemmas.{agrees}
use Rattle.uac_mixer.proofs.MixerElementsListLemmas.{IsElementOf}
use Rattle.uac_status.specs.PanelLaws.{IsOfBytes}
use Rattle.uac_status.proofs.PendingLemmas.{found_in}

-- ---- ids

abbrev pub IsId : Entity → Type 0
IsId e = e.id < 256

-- a block of an entity has its id at place 3
id_at : (b : block.Block) (rest : List ℕ) → slice_index (spelling b ++ rest) 3 < 256 → IfSome (entity_of b) IsId
unfolding spelling entity_of
id_at (row.ClockSource c) rest h = h
id_at (row.ClockSelector c) rest h = h
id_at (row.ClockMultiplier c) rest h = h
id_at (row.InputTerminal t) rest h = h
id_at (row.OutputTerminal t) rest h = h
id_at (row.Mixer m) rest h = h
id_at (row.Selector s) rest h = h
id_at (row.Feature f) rest h = h
id_at (row.Effect e) rest h = h
id_at (row.Configuration _) rest h = tt
id_at (row.Association _) rest h = tt
id_at (row.Interface _) rest h = tt
id_at (row.Endpoint _) rest h = tt
id_at (row.Header _) rest h = tt
id_at (row.General _) rest h = tt
id_at (row.TypeOne _) rest h = tt
id_at (row.Extra _) rest h = tt
id_at (row.ClassEndpoint _) rest h = tt
id_at (row.Foreign _) rest h = tt

pub ids_of_bytes : (blocks : List block.Block) → AreBytes (spellings blocks) → AllByRecursion IsId (entities_of blocks)
ids_of_bytes [] h = tt
ids_of_bytes (b ∷ blocks) h =
    by (entity_of b) (id_at b (spellings blocks) (h 3))
    (ids_of_bytes blocks (subst AreBytes (drop-append_seam (spelling b) (spellings blocks)) (AreBytes-drop (length (spelling b)) (spelling b ++ spellings blocks) h))) where
      by : (o : Option Entity) → IfSome o IsId → AllByRecursion IsId (entities_of blocks) → AllByRecursion IsId (cons_option o (entities_of blocks))
      by None is rest = rest
      by (Some e) is rest = (is, rest)

-- ---- channels and selectors

two_selectors : (k : EntityKind) → selectors_of k ≤ 2
two_selectors k = by (stores_value k 2) (stores_value k 1) where
  by : (a b : Bool) → (if a then 2 else if b then 1 else 0) ≤ 2
  by true b = omega arith
  by false true = omega arith
  by false false = omega arith

count_small : (k : EntityKind) (inputs channels : ℕ) → IsSmall k inputs channels → (is_clock k ≡ false → (1 ≤ channels) × (channels ≤ 32))
    → count_by k (inputs * channels) channels ≤ 256
count_small kind.ClockSource inputs channels small few = omega arith
count_small kind.ClockSelector inputs channels small few = omega arith
count_small kind.ClockMultiplier inputs channels small few = omega arith
count_small kind.InputTerminal inputs channels small few = omega arith
count_small kind.OutputTerminal inputs channels small few = omega arith
count_small kind.Mixer inputs channels small few = small.1
count_small kind.Selector inputs channels small few = omega arith
count_small kind.Feature inputs channels small few = let most = few refl in omega arith
count_small kind.Effect inputs channels small few = let most = few refl in omega arith

-- what is so of each entity is so of the one with an id
of_named : (P : Entity → Type 0) (entities : List Entity) (id : ℕ) (e : Entity) → AllByRecursion P entities → entity_by_id entities id ≡ Some e → P e
unfolding entity_by_id
of_named P entities id e each is =
    let found = found_in P (λ (x : Entity). x.id == id) entities each in
    (subst (λ (o : Option Entity). IfSome o (λ x. P x × ((x.id == id) ≡ true))) is found).0

pub key_of_bytes : (f : FunctionFields) (x : Element) → IsSoundFunction f → AllByRecursion IsId f.entities → IsElementOf f.entities x → IsOfBytes x.key
unfolding count_of
key_of_bytes f x sound ids m =
    let kinds = agrees m.entity.kind x.key.selector x.kind m.shows in
    let keys = keyed f sound in
    let id : m.entity.id < 256 = of_named IsId f.entities x.key.entity m.entity ids m.found in
    let named = id_of_named f.entities x.key.entity m.entity m.found in
    let selectors = two_selectors m.entity.kind in
    let low = leb-true x.key.selector (selectors_of m.entity.kind) kinds.kept in
    let small = of_named (λ e. IsSmall e.kind (sum (pins_of f.entities e)) e.cluster.channels) f.entities x.key.entity m.entity
    (recursion_from_All _ f.entities keys.small) m.found in
    let few = of_named (λ e. is_clock e.kind ≡ false → (1 ≤ e.cluster.channels) × (e.cluster.channels ≤ 32)) f.entities x.key.entity m.entity
    (recursion_from_All _ f.entities (have_channels f sound)) m.found in
    let count = count_small m.entity.kind (sum (pins_of f.entities m.entity)) m.entity.cluster.channels small few in
    let below = leb-true (suc x.key.channel) (count_of f.entities m.entity) m.channel in
    record { entity = omega arith; selector = omega arith; channel = omega arith }
