-- The interfaces of a sound function link to terminals of the bus.
use Rattle.std.proofs.Common.{◌≡◌, ◌∙◌, sym, ap, subst, refl, arith, ℕ, ◌<◌, ◌≤◌, ◌==◌, ◌&&◌, not, Bool, true, false, if◌then◌else◌, List, [], ◌∷◌, Option, Some, None, length, get_or, slice_get, take, ◌⊎◌, inl, inr}
use Rattle.std.specs.Prelude.{position, unwrap_or}
use Rattle.std.specs.List.{All, list_any, position_or_len}
use Rattle.std.specs.Option.{option_map, option_map_or}
use Rattle.std.proofs.lemmas.Bool.{and_parts, eq-eqb, eqb-true, or_parts}
use Rattle.std.proofs.lemmas.List.{get_or_past, get_or-take, length-take-le}
use Rattle.std.proofs.lemmas.List.Folds.{find_at}
use Rattle.std.proofs.lemmas.List.Sums.{position_or_len_is}
use Rattle.std.proofs.lemmas.Option.{slice_get-get_or, slice_get_past}
use Rattle.uac_descriptor.specs.Standard.{USB_STREAMING}
use Rattle.uac_descriptor.specs.declared.block.Block as block
use Rattle.uac_topology_rules.proofs.WalkLemmas.{none_at}
use Rattle.uac_entities.specs.Entities.{entities_of}
use Rattle.uac_entities.specs.EntitySettings.{declared_settings}
use Rattle.uac_entities.specs.EntityInterfaces.{links_of, entity_by_id, streaming_interface_at, streaming_interface_of, streaming_interfaces_of}
use Rattle.uac_entities.specs.declared.settings.DeclaredSetting.{DeclaredSetting}
use Rattle.uac_entities.specs.declared.entity.Entity.{Entity}
use Rattle.uac_entities.specs.declared.entity.EntityKind.{EntityKind}
use Rattle.uac_entities.specs.declared.entity.EntityKind.TheVariants as kind
use Rattle.uac_entities.specs.declared.stream.StreamInterface.{StreamInterface}
use Rattle.uac_topology_rules.specs.Clusters.{cluster_of, with_own_clusters, is_input}
use Rattle.uac_topology_rules.specs.RuleFaults.{rule_fault, broken_names}
use Rattle.uac_topology_rules.specs.Links.{is_terminal}
use Rattle.uac_topology_rules.specs.Rules.{breaks_u1, is_output, is_usb, is_usb_terminal}
use Rattle.uac_topology_rules.specs.Table.{at, nothing, index_of, with_cluster}
use Rattle.uac_topology_rules.proofs.RuleFaultsLemmas.{breaks_none}
use Rattle.uac_topology_rules.proofs.ListFindLemmas.{position-below}
use Rattle.uac_topology_rules.proofs.LinksLemmas.{has_names, or_none}
use Rattle.uac_topology.specs.Function.{FunctionFields}
use Rattle.uac_topology.specs.Topology.{first_fault_of, IsSound, IsSoundFunction, streams_in}
use Rattle.uac_topology.proofs.ClustersLemmas.{with_own_clusters-at, length-with_own_clusters, same_index}
use Rattle.uac_topology.proofs.FunctionKeptLinkLemmas.{right_at, usb_there}
use Rattle.uac_topology.proofs.FunctionKeptRangeLemmas.{All-filter_map, not_false}
use Rattle.uac_topology.proofs.TopologyRuleLemmas.{links_within}
use Rattle.uac_graph.specs.Meaning.{entity}
use Rattle.uac_device.specs.DeviceWorld.{is_jack}
use Rattle.uac_device.specs.Linked.{AreLinked}

-- ---- the rules that are used

ids_above : (blocks : List block.Block) → IsSound blocks → (k : ℕ) → k < length (entities_of blocks) → breaks_u1 (entities_of blocks) k ≡ false
unfolding first_fault_of rule_fault
ids_above blocks sound =
    let es = entities_of blocks in
    breaks_none 1 es breaks_u1 (has_names es (or_none (broken_names es) _ sound).0).u1

-- ---- streaming interfaces as the blocks have them

record IsMade (es : List Entity) (s : StreamInterface) : Type 0 where
  first : s.terminal ≡ unwrap_or (slice_get (links_of s.settings) 0) 0
  goes : s.out ≡ option_map_or is_input (option_map (λ e. e.kind) (entity_by_id es s.terminal)) false

made : (es : List Entity) (all : List DeclaredSetting) (s : StreamInterface) (a : DeclaredSetting) → streaming_interface_at es all a ≡ Some s → IsMade es s
unfolding streaming_interface_at streaming_interface_of
made es all s a is = by (a.setting.number == 0) is
  where
    by : (b : Bool) → (if b then Some (streaming_interface_of es all a.interface) else None) ≡ Some s → IsMade es s
    by true is = let same : streaming_interface_of es all a.interface ≡ s = cc in subst (IsMade es) same (record { first = refl; goes = refl })
    by false is = absurd (cc)

each_made : (es : List Entity) (all : List DeclaredSetting) → All (IsMade es) (streaming_interfaces_of es all)
each_made es all =
    All-filter_map (streaming_interface_at es all) (λ a. Unit {0}) (IsMade es) (λ a s _ is. made es all s a is) all (λ k d below. tt)

-- ---- where they link

other_end : (k : EntityKind) → is_terminal k ≡ true → is_input k ≡ false → is_output k ≡ true
other_end kind.OutputTerminal t i = refl
other_end kind.InputTerminal t i = absurd (cc)
other_end kind.ClockSource t i = absurd (cc)
other_end kind.ClockSelector t i = absurd (cc)
other_end kind.ClockMultiplier t i = absurd (cc)
other_end kind.Mixer t i = absurd (cc)
other_end kind.Selector t i = absurd (cc)
other_end kind.Feature t i = absurd (cc)
other_end kind.Effect t i = absurd (cc)

-- the link of an interface is to a terminal of the bus, or it has none
abbrev Links : List Entity → ℕ → Type 0
Links es id = (id ≡ 0) ⊎ ((index_of es id < length es) × (is_usb_terminal (at es (index_of es id)) ≡ true))

links_to : (es : List Entity) (s : StreamInterface) → IsMade es s → list_any (λ l. not (is_usb es l && l == s.terminal)) (links_of s.settings) ≡ false
    → Links es s.terminal
links_to es s is right = by (links_of s.settings) is.first right
  where
    by : (ls : List ℕ) → s.terminal ≡ unwrap_or (slice_get ls 0) 0 → list_any (λ l. not (is_usb es l && l == s.terminal)) ls ≡ false → Links es s.terminal
    by [] first right = inl first
    by (l ∷ ls) first right =
        let usb : is_usb es l ≡ true = (and_parts _ _ (not_false _ (or_parts _ _ right).0)).0 in
        inr (usb_there es s.terminal (subst (λ (n : ℕ). is_usb es n ≡ true) (sym first) usb))

module _ (es : List Entity) (above : (k : ℕ) → k < length es → breaks_u1 es k ≡ false) where
  -- no entity has the id 0
  none_zero : index_of es 0 ≡ length es
  unfolding breaks_u1 index_of at
  none_zero = position_or_len_is (λ (e : Entity). e.id == 0) es (length es) nothing (omega arith) (λ k below. above k below) (λ h. absurd (omega arith))

  named_zero : entity_by_id es 0 ≡ None
  unfolding entity_by_id index_of
  named_zero = find_at (λ (e : Entity). e.id == 0) es ∙ slice_get_past es (index_of es 0) (omega (arith, none_zero))

  named_there : (id : ℕ) → index_of es id < length es → entity_by_id es id ≡ Some (at es (index_of es id))
  unfolding entity_by_id index_of at
  named_there id below = find_at (λ (e : Entity). e.id == id) es ∙ slice_get-get_or es (index_of es id) nothing below

  entity_zero : entity (with_own_clusters es) 0 ≡ nothing
  unfolding entity at
  entity_zero =
      get_or_past (with_own_clusters es) (index_of (with_own_clusters es) 0) nothing (omega (arith, same_index es 0, none_zero, length-with_own_clusters es))

  entity_there : (id : ℕ) → index_of es id < length es → entity (with_own_clusters es) id ≡ with_cluster (at es (index_of es id)) (cluster_of es (index_of es id))
  unfolding entity at
  entity_there id below = ap (at (with_own_clusters es)) (same_index es id) ∙ with_own_clusters-at es (index_of es id) nothing below

  module _ (s : StreamInterface) (is : IsMade es s) where
    goes_nowhere : s.terminal ≡ 0 → s.out ≡ false
    goes_nowhere zero =
        is.goes ∙ ap (λ (id : ℕ). option_map_or is_input (option_map (λ (e : Entity). e.kind) (entity_by_id es id)) false) zero
        ∙ ap (λ (o : Option Entity). option_map_or is_input (option_map (λ (e : Entity). e.kind) o) false) named_zero

    goes_there : index_of es s.terminal < length es → s.out ≡ is_input (at es (index_of es s.terminal)).kind
    goes_there below =
        is.goes ∙ ap (λ (o : Option Entity). option_map_or is_input (option_map (λ (e : Entity). e.kind) o) false) (named_there s.terminal below)

    input : Links es s.terminal → s.out ≡ true
        → (is_input (entity (with_own_clusters es) s.terminal).kind ≡ true) × (is_jack (entity (with_own_clusters es) s.terminal) ≡ false)
    input (inl zero) out = absurd (let no = goes_nowhere zero in cc)
    input (inr there) out =
        let usb = (and_parts _ _ there.1).1 in
        let here = entity_there s.terminal there.0 in (
          ap (λ (e : Entity). is_input e.kind) here ∙ sym (goes_there there.0) ∙ out,
          ap (λ (e : Entity). not (e.terminal_type == USB_STREAMING)) here ∙ ap not usb,
        )

    output : Links es s.terminal → s.out ≡ false → 1 ≤ (entity (with_own_clusters es) s.terminal).cluster.channels
        → is_output (entity (with_own_clusters es) s.terminal).kind ≡ true
    output (inl zero) out some =
        let none : (entity (with_own_clusters es) s.terminal).cluster.channels ≡ 0 =
        ap (λ (id : ℕ). (entity (with_own_clusters es) id).cluster.channels) zero ∙ ap (λ (e : Entity). e.cluster.channels) entity_zero in
        absurd (omega (arith, none, some))
    output (inr there) out some =
        let terminal = (and_parts _ _ there.1).0 in
        ap (λ (e : Entity). is_output e.kind) (entity_there s.terminal there.0)
        ∙ other_end (at es (index_of es s.terminal)).kind terminal (sym (goes_there there.0) ∙ out)

    -- an interface that goes to the device has a link
    not_zero : s.out ≡ true → (s.terminal == 0) ≡ false
    not_zero out = by (s.terminal == 0) refl
      where
        by : (b : Bool) → (s.terminal == 0) ≡ b → (s.terminal == 0) ≡ false
        by true e = absurd (let no = goes_nowhere (eqb-true s.terminal 0 e) in cc)
        by false e = e

-- the first that has a link, where no earlier one has
first_at : (ss : List StreamInterface) (index terminal : ℕ) (d : StreamInterface) → index < length ss → (get_or ss index d).terminal ≡ terminal
    → list_any (λ x. x.terminal == terminal) (take index ss) ≡ false → position (λ x. x.terminal == terminal) ss ≡ Some index
first_at ss index terminal d below has none =
    let p : StreamInterface → Bool = λ x. x.terminal == terminal in
    let first : position_or_len p ss ≡ index =
    position_or_len_is p ss index d (omega arith)
    (λ j before.
    let early : j < length (take index ss) = omega (arith, length-take-le index ss) in
    ap p (sym (get_or-take index ss j d before)) ∙ none_at p (take index ss) j d early none)
    (λ _. eq-eqb (get_or ss index d).terminal terminal has) in
    position-below p ss (omega (arith, first, below)) ∙ ap (λ (k : ℕ). Some k) first

-- ---- a function of such entities and interfaces

pub linked : (function : FunctionFields) → IsSoundFunction function → AreLinked function
linked function sound =
    let blocks = sound.0 in
    let es = entities_of blocks in
    let ss = streams_in blocks in
    let above = ids_above blocks sound.1 in
    let is = each_made es (declared_settings blocks) in
    let right = right_at es ss (links_within blocks sound.1) in
    let whole : AreLinked (record function { entities = with_own_clusters es; streams = ss }) =
    record {
      inputs = λ k d below. input es above (get_or ss k d) (is k d below) (links_to es (get_or ss k d) (is k d below) (right k d below).links);
      alone = λ k d below out.
          let s = get_or ss k d in
          first_at ss k s.terminal d below refl
          (ap (λ (b : Bool). not b && list_any (λ x. x.terminal == s.terminal) (take k ss)) (sym (not_zero es above s (is k d below) out))
          ∙ (right k d below).alone);
      outputs = λ k d below. output es above (get_or ss k d) (is k d below) (links_to es (get_or ss k d) (is k d below) (right k d below).links);
    } in
    subst AreLinked (λ i. record function { entities = sym sound.2.entities i; streams = sym sound.2.streams i }) whole
