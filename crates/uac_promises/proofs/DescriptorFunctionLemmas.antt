-- The function of a generated script is sound, and has one stream, to a speaker: what its blocks say, by the number of units.
use Rattle.std.proofs.Common.{◌≡◌, ◌∙◌, refl, ap, ℕ, ◌+◌, ◌<◌, true, List, Option, None}
use Rattle.std.specs.List.{list_all}
use Rattle.std.specs.Option.{option_or}
use Rattle.uac_descriptor.specs.Classes.{is_streaming_interface}
use Rattle.uac_descriptor.specs.declared.block.Block as block
use lib.Count.{ones, ones_in}
use Rattle.uac_entities.specs.Entities.{entity_of, entities_of}
use Rattle.uac_entities.specs.EntitySettings.{declared_settings, declared_setting_at, own_blocks, ends_setting, general_of, format_of, endpoint_of}
use Rattle.uac_entities.specs.EntityInterfaces.{link_of, entity_by_id, setting_on_interface, streaming_interface_at, streaming_interface_of}
use Rattle.uac_entities.specs.declared.entity.Entity.{Entity}
use Rattle.uac_topology_rules.specs.declared.fault.TopologyFault.{TopologyFault}
use Rattle.uac_topology_rules.specs.Table.{at, first_index_of, index_of, kind_of}
use Rattle.uac_topology_rules.specs.Links.{clock_links, clock_sources, signal_links, signal_sources}
use Rattle.uac_topology_rules.specs.Clusters.{cluster_step, cluster_within, cluster_of, pins}
use Rattle.uac_topology_rules.specs.Domains.{names_new, clock_named, each_once, domains_of}
use Rattle.uac_topology_rules.specs.Offenders.{first_index, offender, number_at, interface_offender}
use Rattle.uac_topology_rules.specs.Rules.{breaks_u1, breaks_u2, breaks_u3, breaks_u4, breaks_u5, breaks_u8, breaks_u9, breaks_u10, breaks_u11, breaks_u12, breaks_u13, breaks_u14, at_stream, is_usb, is_wrong, exceeds, names_ninth}
use Rattle.uac_topology_rules.specs.RuleFaults.{rule_fault, broken_ends, broken_names, broken_shapes, broken_walks, of_entity, of_interface}
use Rattle.uac_topology_rules.proofs.LinkCyclesLemmas.{cycles_are_named}
use Rattle.uac_topology.specs.Topology.{first_fault_of, streams_in}
use Rattle.uac_gen.specs.GeneratedDescriptor.{blocks_with, control_total, whole_total}
use Rattle.uac_promises.proofs.CyclesLemmas.{descends_from, none_round}
use Rattle.uac_promises.proofs.RulesClockLemmas.{has_clock_one, keeps_u11}
use Rattle.uac_promises.proofs.ListRangeLemmas.{of_thirty}

-- the blocks of a descriptor with so many units and one more
abbrev pub blocks_at : ℕ → List block.Block
blocks_at d = blocks_with (whole_total (1 + d)) (control_total (1 + d)) (1 + d)

abbrev entities_at : ℕ → List Entity
entities_at d = entities_of (blocks_at d)

-- ---- the rules, which say the same of each number of units

names : (d : ℕ) → d < 30 → broken_names (entities_at d) ≡ None
unfolding entity_of at first_index_of index_of kind_of signal_sources clock_sources first_index offender breaks_u1 breaks_u2 breaks_u3 breaks_u4 breaks_u5 of_entity broken_names
names d below = of_thirty (λ d. broken_names (entities_at d)) (λ d. None) refl d below

signals_descend : (d : ℕ) → d < 30 → descends_from 0 (signal_links (entities_at d)) ≡ true
unfolding entity_of index_of signal_sources
signals_descend d below = of_thirty (λ d. descends_from 0 (signal_links (entities_at d))) (λ d. true) refl d below

clocks_descend : (d : ℕ) → d < 30 → descends_from 0 (clock_links (entities_at d)) ≡ true
unfolding entity_of index_of clock_sources
clocks_descend d below = of_thirty (λ d. descends_from 0 (clock_links (entities_at d))) (λ d. true) refl d below

walks : (d : ℕ) → d < 30 → broken_walks (entities_at d) ≡ None
walks d below =
    (cycles_are_named (entities_at d) (names d below)).sound.1 (record {
      signals = none_round (signal_links (entities_at d)) (signals_descend d below);
      clocks = none_round (clock_links (entities_at d)) (clocks_descend d below);
    })

u8 : (d : ℕ) → d < 30 → of_entity 8 (entities_at d) breaks_u8 ≡ None
unfolding entity_of at first_index offender of_entity breaks_u8 ones ones_in
u8 d below = of_thirty (λ d. of_entity 8 (entities_at d) breaks_u8) (λ d. None) refl d below

u9 : (d : ℕ) → d < 30 → of_entity 9 (entities_at d) breaks_u9 ≡ None
unfolding entity_of at index_of signal_sources cluster_step cluster_within cluster_of pins first_index offender breaks_u9 of_entity
u9 d below = of_thirty (λ d. of_entity 9 (entities_at d) breaks_u9) (λ d. None) refl d below

u10 : (d : ℕ) → d < 30 → of_entity 10 (entities_at d) breaks_u10 ≡ None
unfolding entity_of at index_of signal_sources cluster_step cluster_within cluster_of pins first_index offender breaks_u10 of_entity
u10 d below = of_thirty (λ d. of_entity 10 (entities_at d) breaks_u10) (λ d. None) refl d below

clocked : (d : ℕ) → d < 30 → list_all has_clock_one (entities_at d) ≡ true
unfolding entity_of
clocked d below = of_thirty (λ d. list_all has_clock_one (entities_at d)) (λ d. true) refl d below

shapes : (d : ℕ) → d < 30 → broken_shapes (entities_at d) ≡ None
unfolding broken_shapes
shapes d below =
    ap (λ (o : Option TopologyFault). option_or o (option_or (of_entity 9 (entities_at d) breaks_u9) (option_or (of_entity 10 (entities_at d) breaks_u10) (option_or u11 None)))) (u8 d below)
    ∙ ap (λ (o : Option TopologyFault). option_or o (option_or (of_entity 10 (entities_at d) breaks_u10) (option_or u11 None))) (u9 d below)
    ∙ ap (λ (o : Option TopologyFault). option_or o (option_or u11 None)) (u10 d below)
    ∙ ap (λ (o : Option TopologyFault). option_or o None) (keeps_u11 (entities_at d) (clocked d below))
  where
    u11 : Option TopologyFault
    u11 = of_entity 11 (entities_at d) breaks_u11

ends : (d : ℕ) → d < 30 → broken_ends (entities_at d) (declared_settings (blocks_at d)) (streams_in (blocks_at d)) ≡ None
unfolding entity_of declared_settings declared_setting_at is_streaming_interface own_blocks ends_setting general_of format_of endpoint_of streaming_interface_at streaming_interface_of setting_on_interface link_of entity_by_id at first_index_of index_of kind_of signal_sources clock_sources cluster_step cluster_within cluster_of pins names_new clock_named each_once domains_of first_index offender number_at interface_offender breaks_u12 breaks_u13 names_ninth breaks_u14 at_stream is_usb is_wrong exceeds of_entity of_interface broken_ends
ends d below =
    of_thirty (λ d. broken_ends (entities_at d) (declared_settings (blocks_at d)) (streams_in (blocks_at d))) (λ d. None) refl d below

-- no rule is broken
pub none_broken : (d : ℕ) → d < 30 → first_fault_of (blocks_at d) ≡ None
unfolding first_fault_of rule_fault
none_broken d below =
    ap (λ (o : Option TopologyFault). option_or o (option_or (broken_walks es) (option_or (broken_shapes es) (option_or last None)))) (names d below)
    ∙ ap (λ (o : Option TopologyFault). option_or o (option_or (broken_shapes es) (option_or last None))) (walks d below)
    ∙ ap (λ (o : Option TopologyFault). option_or o (option_or last None)) (shapes d below)
    ∙ ap (λ (o : Option TopologyFault). option_or o None) (ends d below)
  where
    es : List Entity
    es = entities_at d

    last : Option TopologyFault
    last = broken_ends es (declared_settings (blocks_at d)) (streams_in (blocks_at d))
