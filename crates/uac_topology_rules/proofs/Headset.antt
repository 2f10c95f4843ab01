-- The headset, a worked example: its entities, domains and streams, and which rule its edits break.
use Rattle.std.proofs.Common.{◌≡◌, ℕ, ◌++◌, true, false, List, [], ◌∷◌, Option, Some, None, length, take, drop, map, refl, suc}
use Rattle.uac_descriptor.specs.Classes.{is_streaming_interface}
use Rattle.uac_descriptor.proofs.Headset.{headset_blocks}
use Rattle.uac_descriptor.specs.declared.block.Block as block
use Rattle.uac_descriptor.specs.declared.block.Block.TheVariants as row
use Rattle.uac_entities.specs.Entities.{entity_of, entities_of}
use Rattle.uac_entities.specs.EntitySettings.{declared_settings, declared_setting_at, own_blocks, ends_setting, general_of, format_of, endpoint_of}
use Rattle.uac_entities.specs.EntityInterfaces.{streaming_interfaces_of, streaming_interface_at, streaming_interface_of, setting_on_interface, link_of, entity_by_id}
use Rattle.uac_topology_rules.specs.declared.fault.TopologyFault.{TopologyFault}
use lib.Count.{ones, ones_in}
use Rattle.uac_topology_rules.specs.Walk.{has_walk}
use Rattle.uac_topology_rules.specs.Table.{at, first_index_of, index_of, kind_of}
use Rattle.uac_topology_rules.specs.Links.{signal_sources, clock_sources}
use Rattle.uac_topology_rules.specs.Clusters.{cluster_step, cluster_within, cluster_of, pins, clocks_step, clocks_within, clocks_of, with_own_clusters}
use Rattle.uac_topology_rules.specs.Domains.{names_new, clock_named, each_once, domains_of}
use Rattle.uac_topology_rules.specs.Offenders.{first_index, offender, number_at, interface_offender}
use Rattle.uac_topology_rules.specs.Rules.{
  breaks_u1,
  breaks_u2,
  breaks_u3,
  breaks_u4,
  breaks_u5,
  breaks_u6,
  breaks_u7,
  breaks_u8,
  breaks_u9,
  breaks_u10,
  breaks_u11,
  breaks_u12,
  breaks_u13,
  breaks_u14,
  at_stream,
  is_usb,
  is_wrong,
  exceeds,
  names_ninth,
}
use Rattle.uac_topology_rules.specs.RuleFaults.{of_entity, of_interface, broken_names, broken_walks, broken_shapes, broken_ends, rule_fault}

fault_of : List block.Block → Option TopologyFault
fault_of blocks = rule_fault (entities_of blocks) (declared_settings blocks) (streaming_interfaces_of (entities_of blocks) (declared_settings blocks))

headset : List block.Block
headset = headset_blocks

-- the block at an index changed
with_change : ℕ → block.Block → List block.Block → List block.Block
with_change i b blocks = take i blocks ++ b ∷ drop (suc i) blocks

-- a block more, in front of the one at an index
with_block : ℕ → block.Block → List block.Block → List block.Block
with_block i b blocks = take i blocks ++ b ∷ drop i blocks

-- the headset is sound
sound : fault_of (headset) ≡ None
unfolding entity_of declared_settings declared_setting_at is_streaming_interface own_blocks ends_setting general_of format_of endpoint_of streaming_interface_at streaming_interface_of setting_on_interface link_of entity_by_id has_walk at first_index_of index_of kind_of signal_sources clock_sources cluster_step cluster_within cluster_of pins clocks_step clocks_within clocks_of names_new clock_named each_once domains_of first_index offender number_at interface_offender breaks_u1 breaks_u2 breaks_u3 breaks_u4 breaks_u5 breaks_u6 breaks_u7 breaks_u8 breaks_u9 breaks_u10 breaks_u11 breaks_u12 breaks_u13 names_ninth breaks_u14 at_stream is_usb is_wrong exceeds of_entity of_interface broken_names broken_walks broken_shapes broken_ends rule_fault fault_of headset ones ones_in with_change with_block
sound = refl

-- units 3 and 6 feed each other
each_other : fault_of (with_change 10 (row.Feature (record { id = 6; source = 3; words = 3 ∷ 12 ∷ []; name = 0 })) (with_change 7 (row.Feature (record { id = 3; source = 6; words = 3 ∷ 12 ∷ 12 ∷ []; name = 0 })) (headset))) ≡ Some (record { rule = 6; id = 3; interface = false })
unfolding entity_of declared_settings declared_setting_at is_streaming_interface own_blocks ends_setting general_of format_of endpoint_of streaming_interface_at streaming_interface_of setting_on_interface link_of entity_by_id has_walk at first_index_of index_of kind_of signal_sources clock_sources cluster_step cluster_within cluster_of pins clocks_step clocks_within clocks_of names_new clock_named each_once domains_of first_index offender number_at interface_offender breaks_u1 breaks_u2 breaks_u3 breaks_u4 breaks_u5 breaks_u6 breaks_u7 breaks_u8 breaks_u9 breaks_u10 breaks_u11 breaks_u12 breaks_u13 names_ninth breaks_u14 at_stream is_usb is_wrong exceeds of_entity of_interface broken_names broken_walks broken_shapes broken_ends rule_fault fault_of headset ones ones_in with_change with_block
each_other = refl

-- a mixer of two bytes of bitmap
mixer : fault_of (with_block 12 (row.Mixer (record { id = 8; sources = 2 ∷ 6 ∷ []; channels = 3; locations = 0; names = 0; mix_bits = 255 ∷ 128 ∷ []; controls = 0; name = 0 })) (headset)) ≡ None
unfolding entity_of declared_settings declared_setting_at is_streaming_interface own_blocks ends_setting general_of format_of endpoint_of streaming_interface_at streaming_interface_of setting_on_interface link_of entity_by_id has_walk at first_index_of index_of kind_of signal_sources clock_sources cluster_step cluster_within cluster_of pins clocks_step clocks_within clocks_of names_new clock_named each_once domains_of first_index offender number_at interface_offender breaks_u1 breaks_u2 breaks_u3 breaks_u4 breaks_u5 breaks_u6 breaks_u7 breaks_u8 breaks_u9 breaks_u10 breaks_u11 breaks_u12 breaks_u13 names_ninth breaks_u14 at_stream is_usb is_wrong exceeds of_entity of_interface broken_names broken_walks broken_shapes broken_ends rule_fault fault_of headset ones ones_in with_change with_block
mixer = refl

-- a mixer of one byte of bitmap
short_bitmap : fault_of (with_block 12 (row.Mixer (record { id = 8; sources = 2 ∷ 6 ∷ []; channels = 3; locations = 0; names = 0; mix_bits = 255 ∷ []; controls = 0; name = 0 })) (headset)) ≡ Some (record { rule = 9; id = 8; interface = false })
unfolding entity_of declared_settings declared_setting_at is_streaming_interface own_blocks ends_setting general_of format_of endpoint_of streaming_interface_at streaming_interface_of setting_on_interface link_of entity_by_id has_walk at first_index_of index_of kind_of signal_sources clock_sources cluster_step cluster_within cluster_of pins clocks_step clocks_within clocks_of names_new clock_named each_once domains_of first_index offender number_at interface_offender breaks_u1 breaks_u2 breaks_u3 breaks_u4 breaks_u5 breaks_u6 breaks_u7 breaks_u8 breaks_u9 breaks_u10 breaks_u11 breaks_u12 breaks_u13 names_ninth breaks_u14 at_stream is_usb is_wrong exceeds of_entity of_interface broken_names broken_walks broken_shapes broken_ends rule_fault fault_of headset ones ones_in with_change with_block
short_bitmap = refl

-- an entity of id 0
zero : fault_of (with_change 7 (row.Feature (record { id = 0; source = 2; words = 3 ∷ 12 ∷ 12 ∷ []; name = 0 })) (headset)) ≡ Some (record { rule = 1; id = 0; interface = false })
unfolding entity_of declared_settings declared_setting_at is_streaming_interface own_blocks ends_setting general_of format_of endpoint_of streaming_interface_at streaming_interface_of setting_on_interface link_of entity_by_id has_walk at first_index_of index_of kind_of signal_sources clock_sources cluster_step cluster_within cluster_of pins clocks_step clocks_within clocks_of names_new clock_named each_once domains_of first_index offender number_at interface_offender breaks_u1 breaks_u2 breaks_u3 breaks_u4 breaks_u5 breaks_u6 breaks_u7 breaks_u8 breaks_u9 breaks_u10 breaks_u11 breaks_u12 breaks_u13 names_ninth breaks_u14 at_stream is_usb is_wrong exceeds of_entity of_interface broken_names broken_walks broken_shapes broken_ends rule_fault fault_of headset ones ones_in with_change with_block
zero = refl

-- an output terminal whose clock is none
no_clock : fault_of (with_change 8 (row.OutputTerminal (record { id = 4; terminal_type = 770; assoc = 0; source = 3; clock = 2; controls = 0; name = 0 })) (headset)) ≡ Some (record { rule = 5; id = 4; interface = false })
unfolding entity_of declared_settings declared_setting_at is_streaming_interface own_blocks ends_setting general_of format_of endpoint_of streaming_interface_at streaming_interface_of setting_on_interface link_of entity_by_id has_walk at first_index_of index_of kind_of signal_sources clock_sources cluster_step cluster_within cluster_of pins clocks_step clocks_within clocks_of names_new clock_named each_once domains_of first_index offender number_at interface_offender breaks_u1 breaks_u2 breaks_u3 breaks_u4 breaks_u5 breaks_u6 breaks_u7 breaks_u8 breaks_u9 breaks_u10 breaks_u11 breaks_u12 breaks_u13 names_ninth breaks_u14 at_stream is_usb is_wrong exceeds of_entity of_interface broken_names broken_walks broken_shapes broken_ends rule_fault fault_of headset ones ones_in with_change with_block
no_clock = refl

-- a link that is no USB streaming terminal
no_link : fault_of (with_change 14 (row.General (record { link = 4; controls = 5; format_type = 1; formats = 1; channels = 2; locations = 3; names = 0 })) (headset)) ≡ Some (record { rule = 12; id = 1; interface = true })
unfolding entity_of declared_settings declared_setting_at is_streaming_interface own_blocks ends_setting general_of format_of endpoint_of streaming_interface_at streaming_interface_of setting_on_interface link_of entity_by_id has_walk at first_index_of index_of kind_of signal_sources clock_sources cluster_step cluster_within cluster_of pins clocks_step clocks_within clocks_of names_new clock_named each_once domains_of first_index offender number_at interface_offender breaks_u1 breaks_u2 breaks_u3 breaks_u4 breaks_u5 breaks_u6 breaks_u7 breaks_u8 breaks_u9 breaks_u10 breaks_u11 breaks_u12 breaks_u13 names_ninth breaks_u14 at_stream is_usb is_wrong exceeds of_entity of_interface broken_names broken_walks broken_shapes broken_ends rule_fault fault_of headset ones ones_in with_change with_block
no_link = refl

-- a setting of one endpoint that has two
endpoints : fault_of (with_change 13 (row.Interface (record { number = 1; setting = 1; endpoints = 1; class = 1; subclass = 2; protocol = 32; name = 0 })) (headset)) ≡ Some (record { rule = 13; id = 1; interface = true })
unfolding entity_of declared_settings declared_setting_at is_streaming_interface own_blocks ends_setting general_of format_of endpoint_of streaming_interface_at streaming_interface_of setting_on_interface link_of entity_by_id has_walk at first_index_of index_of kind_of signal_sources clock_sources cluster_step cluster_within cluster_of pins clocks_step clocks_within clocks_of names_new clock_named each_once domains_of first_index offender number_at interface_offender breaks_u1 breaks_u2 breaks_u3 breaks_u4 breaks_u5 breaks_u6 breaks_u7 breaks_u8 breaks_u9 breaks_u10 breaks_u11 breaks_u12 breaks_u13 names_ninth breaks_u14 at_stream is_usb is_wrong exceeds of_entity of_interface broken_names broken_walks broken_shapes broken_ends rule_fault fault_of headset ones ones_in with_change with_block
endpoints = refl

-- the ids of the entities, each with the channels that it puts out
headset_entities : map (λ e. e.id ∷ e.cluster.channels ∷ []) (with_own_clusters (entities_of headset))
    ≡ (1 ∷ 0 ∷ []) ∷ (2 ∷ 2 ∷ []) ∷ (3 ∷ 2 ∷ []) ∷ (4 ∷ 2 ∷ []) ∷ (5 ∷ 1 ∷ []) ∷ (6 ∷ 1 ∷ []) ∷ (7 ∷ 1 ∷ []) ∷ []
unfolding entity_of declared_settings declared_setting_at is_streaming_interface own_blocks ends_setting general_of format_of endpoint_of streaming_interface_at streaming_interface_of setting_on_interface link_of entity_by_id has_walk at first_index_of index_of kind_of signal_sources clock_sources cluster_step cluster_within cluster_of pins clocks_step clocks_within clocks_of names_new clock_named each_once domains_of first_index offender number_at interface_offender breaks_u1 breaks_u2 breaks_u3 breaks_u4 breaks_u5 breaks_u6 breaks_u7 breaks_u8 breaks_u9 breaks_u10 breaks_u11 breaks_u12 breaks_u13 names_ninth breaks_u14 at_stream is_usb is_wrong exceeds of_entity of_interface broken_names broken_walks broken_shapes broken_ends rule_fault fault_of headset ones ones_in with_own_clusters
headset_entities = refl

-- one clock
headset_domains : domains_of (entities_of headset) ≡ 1 ∷ []
unfolding entity_of declared_settings declared_setting_at is_streaming_interface own_blocks ends_setting general_of format_of endpoint_of streaming_interface_at streaming_interface_of setting_on_interface link_of entity_by_id has_walk at first_index_of index_of kind_of signal_sources clock_sources cluster_step cluster_within cluster_of pins clocks_step clocks_within clocks_of names_new clock_named each_once domains_of first_index offender number_at interface_offender breaks_u1 breaks_u2 breaks_u3 breaks_u4 breaks_u5 breaks_u6 breaks_u7 breaks_u8 breaks_u9 breaks_u10 breaks_u11 breaks_u12 breaks_u13 names_ninth breaks_u14 at_stream is_usb is_wrong exceeds of_entity of_interface broken_names broken_walks broken_shapes broken_ends rule_fault fault_of headset ones ones_in
headset_domains = refl

-- the number of each streaming interface, its terminal and how many settings it has
headset_streams : map (λ s. s.number ∷ s.terminal ∷ length s.settings ∷ []) (streaming_interfaces_of (entities_of headset) (declared_settings headset))
    ≡ (1 ∷ 2 ∷ 2 ∷ []) ∷ (2 ∷ 7 ∷ 2 ∷ []) ∷ []
unfolding entity_of declared_settings declared_setting_at is_streaming_interface own_blocks ends_setting general_of format_of endpoint_of streaming_interface_at streaming_interface_of setting_on_interface link_of entity_by_id has_walk at first_index_of index_of kind_of signal_sources clock_sources cluster_step cluster_within cluster_of pins clocks_step clocks_within clocks_of names_new clock_named each_once domains_of first_index offender number_at interface_offender breaks_u1 breaks_u2 breaks_u3 breaks_u4 breaks_u5 breaks_u6 breaks_u7 breaks_u8 breaks_u9 breaks_u10 breaks_u11 breaks_u12 breaks_u13 names_ninth breaks_u14 at_stream is_usb is_wrong exceeds of_entity of_interface broken_names broken_walks broken_shapes broken_ends rule_fault fault_of headset ones ones_in
headset_streams = refl

-- interface 1 goes to the device, interface 2 comes from it
headset_directions : map (λ s. s.out) (streaming_interfaces_of (entities_of headset) (declared_settings headset)) ≡ true ∷ false ∷ []
unfolding entity_of declared_settings declared_setting_at is_streaming_interface own_blocks ends_setting general_of format_of endpoint_of streaming_interface_at streaming_interface_of setting_on_interface link_of entity_by_id has_walk at first_index_of index_of kind_of signal_sources clock_sources cluster_step cluster_within cluster_of pins clocks_step clocks_within clocks_of names_new clock_named each_once domains_of first_index offender number_at interface_offender breaks_u1 breaks_u2 breaks_u3 breaks_u4 breaks_u5 breaks_u6 breaks_u7 breaks_u8 breaks_u9 breaks_u10 breaks_u11 breaks_u12 breaks_u13 names_ninth breaks_u14 at_stream is_usb is_wrong exceeds of_entity of_interface broken_names broken_walks broken_shapes broken_ends rule_fault fault_of headset ones ones_in
headset_directions = refl
