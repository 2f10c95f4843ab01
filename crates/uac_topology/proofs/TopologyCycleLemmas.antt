-- Where there is a cycle, and where there is none.
use Rattle.std.proofs.Common.{◌≡◌, ◌⊎◌, Bool, ℕ, ◌<◌, ◌≤◌, List, Option, Some, None, refl, ap, ◌∙◌, arith, inl, inr, subst}
use Rattle.std.specs.Option.{option_map, option_or}
use Rattle.std.proofs.lemmas.Option.{none-some, same_Some}
use Rattle.uac_descriptor.specs.declared.block.Block as block
use Rattle.uac_topology_rules.specs.Cycles.{HasCycle}
use Rattle.uac_entities.specs.Entities.{entities_of}
use Rattle.uac_entities.specs.EntitySettings.{declared_settings}
use Rattle.uac_entities.specs.declared.settings.DeclaredSetting.{DeclaredSetting}
use Rattle.uac_entities.specs.declared.entity.Entity.{Entity}
use Rattle.uac_entities.specs.declared.stream.StreamInterface.{StreamInterface}
use Rattle.uac_topology_rules.specs.declared.fault.TopologyFault.{TopologyFault}
use Rattle.uac_topology_rules.specs.Links.{signal_links, clock_links}
use Rattle.uac_topology_rules.specs.Offenders.{offender, interface_offender}
use Rattle.uac_topology_rules.specs.Rules as rules
use Rattle.uac_topology_rules.specs.RuleFaults.{of_entity, of_interface, broken_names, broken_walks, broken_shapes, broken_ends, rule_fault}
use Rattle.uac_topology_rules.specs.LinkCycles.{HasNoCycle, IsSignalFault, IsClockFault}
use Rattle.uac_topology_rules.proofs.LinkCyclesLemmas.{cycles_are_named}
use Rattle.uac_topology_rules.proofs.LinksLemmas.{or_none}
use Rattle.uac_topology_rules.proofs.CyclesLemmas as walks
use Rattle.uac_topology.specs.Topology.{first_fault_of, streams_in, SoundHasNoCycle, IsRefusedBy, CyclesAreRefused}

pub sound_has_no_cycle : SoundHasNoCycle
unfolding first_fault_of rule_fault
sound_has_no_cycle blocks sound =
    let es = entities_of blocks in
    let names = or_none (broken_names es) _ sound in
    (cycles_are_named es names.0).sound.0 (or_none (broken_walks es) _ names.1).0

-- each fault has a rule of these
Within : (ℕ → Type 0) → Option TopologyFault → Type 0
Within P found = (fault : TopologyFault) → found ≡ Some fault → P fault.rule

none_within : (P : ℕ → Type 0) → Within P None
unfolding Within
none_within P fault e = absurd (none-some fault e)

or_within : (P : ℕ → Type 0) (a b : Option TopologyFault) → Within P a → Within P b → Within P (option_or a b)
unfolding Within
or_within P None b x y = y
or_within P (Some f) b x y = x

made_within : {X : Type 0} (P : ℕ → Type 0) (make : X → TopologyFault) → ((x : X) → P (make x).rule) → (o : Option X) → Within P (option_map make o)
unfolding Within
made_within P make h None fault e = absurd (none-some fault e)
made_within P make h (Some x) fault e = subst (λ (t : TopologyFault). P t.rule) (same_Some (make x) fault e) (h x)

entity_within : (P : ℕ → Type 0) (rule : ℕ) (es : List Entity) (breaks : List Entity → ℕ → Bool) → P rule → Within P (of_entity rule es breaks)
unfolding of_entity
entity_within P rule es breaks h = made_within P _ (λ x. h) (offender es (breaks es))

interface_within : (P : ℕ → Type 0) (rule : ℕ) (ss : List StreamInterface) (breaks : List StreamInterface → ℕ → Bool) → P rule → Within P (of_interface rule ss breaks)
unfolding of_interface
interface_within P rule ss breaks h = made_within P _ (λ x. h) (interface_offender ss (breaks ss))

names_within : (es : List Entity) → Within (λ r. r < 6) (broken_names es)
unfolding broken_names
names_within es =
    or_within _ _ _ (entity_within _ 1 es rules.breaks_u1 (omega arith))
    (or_within _ _ _ (entity_within _ 2 es rules.breaks_u2 (omega arith))
    (or_within _ _ _ (entity_within _ 3 es rules.breaks_u3 (omega arith))
    (or_within _ _ _ (entity_within _ 4 es rules.breaks_u4 (omega arith))
    (or_within _ _ _ (entity_within _ 5 es rules.breaks_u5 (omega arith)) (none_within _)))))

shapes_within : (es : List Entity) → Within (λ r. 7 < r) (broken_shapes es)
unfolding broken_shapes
shapes_within es =
    or_within _ _ _ (entity_within _ 8 es rules.breaks_u8 (omega arith))
    (or_within _ _ _ (entity_within _ 9 es rules.breaks_u9 (omega arith))
    (or_within _ _ _ (entity_within _ 10 es rules.breaks_u10 (omega arith))
    (or_within _ _ _ (entity_within _ 11 es rules.breaks_u11 (omega arith)) (none_within _))))

ends_within : (es : List Entity) (all : List DeclaredSetting) (ss : List StreamInterface) → Within (λ r. 7 < r) (broken_ends es all ss)
unfolding broken_ends
ends_within es all ss =
    or_within _ _ _ (interface_within _ 12 ss (rules.breaks_u12 es) (omega arith))
    (or_within _ _ _ (interface_within _ 13 ss (rules.breaks_u13 all) (omega arith))
    (or_within _ _ _ (entity_within _ 14 es rules.breaks_u14 (omega arith))
    (or_within _ _ _ (interface_within _ 14 ss rules.exceeds (omega arith)) (none_within _))))

-- a fault of the rules 6 and 7 is that of the rules on walks
walks_fault : (names walks later : Option TopologyFault) → Within (λ r. r < 6) names → Within (λ r. 7 < r) later → (fault : TopologyFault) →
    option_or names (option_or walks later) ≡ Some fault → 6 ≤ fault.rule → fault.rule ≤ 7 → (names ≡ None) × (walks ≡ Some fault)
unfolding Within
walks_fault (Some f) walks later few many fault e low high = absurd (omega (arith, few fault e))
walks_fault None None later few many fault e low high = absurd (omega (arith, many fault e))
walks_fault None (Some f) later few many fault e low high = (refl, e)

module _ (blocks : List block.Block) where
  refused_by_walks : (fault : TopologyFault) → first_fault_of blocks ≡ Some fault → 6 ≤ fault.rule → fault.rule ≤ 7 →
      (broken_names (entities_of blocks) ≡ None) × (broken_walks (entities_of blocks) ≡ Some fault)
  unfolding first_fault_of rule_fault
  refused_by_walks fault e low high =
      let es = entities_of blocks in
      walks_fault (broken_names es) (broken_walks es) _ (names_within es)
      (or_within _ _ _ (shapes_within es) (or_within _ _ _ (ends_within es (declared_settings blocks) (streams_in blocks)) (none_within _))) fault e low high

  refused : (fault : TopologyFault) → broken_names (entities_of blocks) ≡ None → broken_walks (entities_of blocks) ≡ Some fault → first_fault_of blocks ≡ Some fault
  unfolding first_fault_of rule_fault
  refused fault names walks =
      let es = entities_of blocks in
      let later = option_or (broken_shapes es) (option_or (broken_ends es (declared_settings blocks) (streams_in blocks)) None) in
      ap (λ (o : Option TopologyFault). option_or o (option_or (broken_walks es) later)) names
      ∙ ap (λ (o : Option TopologyFault). option_or o later) walks

  signals : IsRefusedBy 6 blocks → (broken_names (entities_of blocks) ≡ None) × HasCycle (signal_links (entities_of blocks))
  signals r =
      let w = refused_by_walks r.0 r.1 (omega (arith, r.2)) (omega (arith, r.2)) in
      elim (((cycles_are_named (entities_of blocks) w.0).fault r.0).0 w.1) [
        | inl s ↦ (w.0, walks.cycle_of s.first.index s.first.round)
        | inr c ↦ absurd (omega (arith, r.2, c.rule))
      ]

  clocks : IsRefusedBy 7 blocks →
      (broken_names (entities_of blocks) ≡ None) × (HasCycle (signal_links (entities_of blocks)) → ⊥) × HasCycle (clock_links (entities_of blocks))
  clocks r =
      let w = refused_by_walks r.0 r.1 (omega (arith, r.2)) (omega (arith, r.2)) in
      elim (((cycles_are_named (entities_of blocks) w.0).fault r.0).0 w.1) [
        | inl s ↦ absurd (omega (arith, r.2, s.rule))
        | inr c ↦ (w.0, c.silent, walks.cycle_of c.first.index c.first.round)
      ]

  -- some fault of the rules on walks, where there is a cycle
  fault_of_cycle : broken_names (entities_of blocks) ≡ None → (HasNoCycle (entities_of blocks) → ⊥) →
      (fault : TopologyFault) × (first_fault_of blocks ≡ Some fault) × (IsSignalFault (entities_of blocks) fault ⊎ IsClockFault (entities_of blocks) fault)
  fault_of_cycle names cycle = by (broken_walks (entities_of blocks)) refl
    where
      by : (o : Option TopologyFault) → broken_walks (entities_of blocks) ≡ o →
          (fault : TopologyFault) × (first_fault_of blocks ≡ Some fault) × (IsSignalFault (entities_of blocks) fault ⊎ IsClockFault (entities_of blocks) fault)
      by None e = absurd (cycle ((cycles_are_named (entities_of blocks) names).sound.0 e))
      by (Some fault) e = (fault, refused fault names e, ((cycles_are_named (entities_of blocks) names).fault fault).0 e)

  by_signals : (broken_names (entities_of blocks) ≡ None) × HasCycle (signal_links (entities_of blocks)) → IsRefusedBy 6 blocks
  by_signals h =
      let f = fault_of_cycle h.0 (λ none. none.signals h.1) in
      elim f.2 [ inl s ↦ (f.0, f.1, s.rule) | inr c ↦ absurd (c.silent h.1) ]

  by_clocks : (broken_names (entities_of blocks) ≡ None) × (HasCycle (signal_links (entities_of blocks)) → ⊥) × HasCycle (clock_links (entities_of blocks)) →
      IsRefusedBy 7 blocks
  by_clocks h =
      let f = fault_of_cycle h.0 (λ none. none.clocks h.2) in
      elim f.2 [ inl s ↦ absurd (h.1 (walks.cycle_of s.first.index s.first.round)) | inr c ↦ (f.0, f.1, c.rule) ]

pub cycles_are_refused : CyclesAreRefused
cycles_are_refused blocks =
    record { signals = (signals blocks, by_signals blocks); clocks = (clocks blocks, by_clocks blocks) }
