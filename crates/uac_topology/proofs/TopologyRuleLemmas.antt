-- The rules that the entities of a sound function keep, one by one.
use Rattle.std.proofs.Common.{◌≡◌, ◌∙◌, sym, arith, ℕ, zero, suc, ◌<◌, Bool, false, List, None, length, inl, inr}
use Rattle.std.proofs.lemmas.Bool.{cases_Bool}
use Rattle.uac_descriptor.specs.declared.block.Block as block
use Rattle.uac_entities.specs.Entities.{entities_of}
use Rattle.uac_entities.specs.EntitySettings.{declared_settings}
use Rattle.uac_entities.specs.declared.entity.Entity.{Entity}
use Rattle.uac_entities.specs.declared.stream.StreamInterface.{StreamInterface}
use Rattle.uac_topology_rules.specs.RuleFaults.{rule_fault, broken_ends, broken_names, broken_shapes, broken_walks, of_entity, of_interface}
use Rattle.uac_topology_rules.specs.Rules.{breaks_u2, breaks_u3, breaks_u4, breaks_u6, breaks_u7, breaks_u8, breaks_u9, breaks_u10, breaks_u12, breaks_u13, breaks_u14, exceeds}
use Rattle.uac_topology_rules.proofs.RuleFaultsLemmas.{breaks_none, interface_breaks}
use Rattle.uac_topology_rules.proofs.LinksLemmas.{has_names, or_none}
use Rattle.uac_topology.specs.Topology.{first_fault_of, IsSound, streams_in}

-- the rules that are used of sound entities, at each index
pub record KeepsRules (es : List Entity) : Type 0 where
  pub u2 : (k : ℕ) → k < length es → breaks_u2 es k ≡ false
  pub u3 : (k : ℕ) → k < length es → breaks_u3 es k ≡ false
  pub u4 : (k : ℕ) → k < length es → breaks_u4 es k ≡ false
  pub u6 : (k : ℕ) → k < length es → breaks_u6 es k ≡ false
  pub u7 : (k : ℕ) → k < length es → breaks_u7 es k ≡ false
  pub u8 : (k : ℕ) → k < length es → breaks_u8 es k ≡ false
  pub u10 : (k : ℕ) → k < length es → breaks_u10 es k ≡ false
  pub u14 : (k : ℕ) → k < length es → breaks_u14 es k ≡ false

-- the rules on streaming interfaces, and the limits, hold where no rule is broken
limits_hold : (blocks : List block.Block) → IsSound blocks
    → (of_entity 14 (entities_of blocks) breaks_u14 ≡ None) × (of_interface 14 (streams_in blocks) exceeds ≡ None)
    × (of_interface 13 (streams_in blocks) (breaks_u13 (declared_settings blocks)) ≡ None)
    × (of_interface 12 (streams_in blocks) (breaks_u12 (entities_of blocks)) ≡ None)
unfolding first_fault_of rule_fault broken_ends
limits_hold blocks sound =
    let es = entities_of blocks in
    let ss = streams_in blocks in
    let names = or_none (broken_names es) _ sound in
    let walks = or_none (broken_walks es) _ names.1 in
    let shapes = or_none (broken_shapes es) _ walks.1 in
    let ends = or_none (broken_ends es (declared_settings blocks) ss) _ shapes.1 in
    let u12 = or_none (of_interface 12 ss (breaks_u12 es)) _ ends.0 in
    let u13 = or_none (of_interface 13 ss (breaks_u13 (declared_settings blocks))) _ u12.1 in
    let u14 = or_none (of_entity 14 es breaks_u14) _ u13.1 in (u14.0, (or_none (of_interface 14 ss exceeds) _ u14.1).0, u13.0, u12.0)

pub streams_within : (blocks : List block.Block) → IsSound blocks → of_interface 14 (streams_in blocks) exceeds ≡ None
streams_within blocks sound = (limits_hold blocks sound).1

pub endpoints_within : (blocks : List block.Block) → IsSound blocks
    → of_interface 13 (streams_in blocks) (breaks_u13 (declared_settings blocks)) ≡ None
endpoints_within blocks sound = (limits_hold blocks sound).2

pub links_within : (blocks : List block.Block) → IsSound blocks → of_interface 12 (streams_in blocks) (breaks_u12 (entities_of blocks)) ≡ None
links_within blocks sound = (limits_hold blocks sound).3

-- where no fault is found, no streaming interface breaks the rule
none_before : (rule : ℕ) (ss : List StreamInterface) (breaks : List StreamInterface → ℕ → Bool) → of_interface rule ss breaks ≡ None
    → (n k : ℕ) → k < n → k < length ss → breaks ss k ≡ false
none_before rule ss breaks none zero k before below = absurd (omega arith)
none_before rule ss breaks none (suc n) k before below =
    elim (cases_Bool (breaks ss k)) [
      | inl breaks_it ↦
          absurd (
          let fault = sym (interface_breaks rule ss breaks k below (λ j less. none_before rule ss breaks none n j (omega arith) (omega arith)) breaks_it) ∙ none in cc)
      | inr holds ↦ holds
    ]

pub no_interface : (rule : ℕ) (ss : List StreamInterface) (breaks : List StreamInterface → ℕ → Bool) → of_interface rule ss breaks ≡ None
    → (k : ℕ) → k < length ss → breaks ss k ≡ false
no_interface rule ss breaks none k below = none_before rule ss breaks none (suc k) k (omega arith) below

pub rules_hold : (blocks : List block.Block) → IsSound blocks → KeepsRules (entities_of blocks)
unfolding first_fault_of rule_fault broken_walks broken_shapes
rules_hold blocks sound =
    let es = entities_of blocks in
    let names = or_none (broken_names es) _ sound in
    let walks = or_none (broken_walks es) _ names.1 in
    let shapes = or_none (broken_shapes es) _ walks.1 in
    let u6 = or_none (of_entity 6 es breaks_u6) _ walks.0 in
    let u8 = or_none (of_entity 8 es breaks_u8) _ shapes.0 in
    let u9 = or_none (of_entity 9 es breaks_u9) _ u8.1 in
    record {
      u2 = breaks_none 2 es breaks_u2 (has_names es names.0).u2;
      u3 = breaks_none 3 es breaks_u3 (has_names es names.0).u3;
      u4 = breaks_none 4 es breaks_u4 (has_names es names.0).u4;
      u6 = breaks_none 6 es breaks_u6 u6.0;
      u7 = breaks_none 7 es breaks_u7 (or_none (of_entity 7 es breaks_u7) _ u6.1).0;
      u8 = breaks_none 8 es breaks_u8 u8.0;
      u10 = breaks_none 10 es breaks_u10 (or_none (of_entity 10 es breaks_u10) _ u9.1).0;
      u14 = breaks_none 14 es breaks_u14 (limits_hold blocks sound).0;
    }
