-- Small functions that break one rule each, and whom the rule names: the first offender in block order.
use Rattle.std.proofs.Common.{◌≡◌, ℕ, ◌++◌, true, false, List, [], ◌∷◌, Option, Some, map, refl, zero, suc}
use Rattle.uac_descriptor.specs.Classes.{is_streaming_interface}
use Rattle.uac_descriptor.specs.declared.block.Block as block
use Rattle.uac_descriptor.specs.declared.block.Block.TheVariants as row
use Rattle.uac_entities.specs.Entities.{entity_of, entities_of}
use Rattle.uac_entities.specs.EntitySettings.{declared_settings, declared_setting_at, own_blocks, ends_setting, general_of, format_of, endpoint_of}
use Rattle.uac_entities.specs.EntityInterfaces.{streaming_interfaces_of, streaming_interface_at, streaming_interface_of, setting_on_interface, link_of, entity_by_id}
use Rattle.uac_topology_rules.specs.declared.fault.TopologyFault.{TopologyFault}
use lib.Count.{ones, ones_in}
use Rattle.uac_topology_rules.specs.Walk.{has_walk}
use Rattle.uac_topology_rules.specs.Table.{at, first_index_of, index_of, kind_of}
use Rattle.uac_topology_rules.specs.Links.{signal_sources, clock_sources}
use Rattle.uac_topology_rules.specs.Clusters.{cluster_step, cluster_within, cluster_of, pins, clocks_step, clocks_within, clocks_of}
use Rattle.uac_topology_rules.specs.Domains.{names_new, clock_named, each_once, domains_of}
use Rattle.uac_topology_rules.specs.Offenders.{first_index, offender, number_at, interface_offender}
use Rattle.uac_topology_rules.specs.Rules.{
  breaks_u1,
  breaks_u2,
  breaks_u3,
  breaks_u4,
  breaks_u5,
  breaks_u6,
  breaks_u7,
  breaks_u8,
  breaks_u9,
  breaks_u10,
  breaks_u11,
  breaks_u12,
  breaks_u13,
  breaks_u14,
  at_stream,
  is_usb,
  is_wrong,
  exceeds,
  names_ninth,
}
use Rattle.uac_topology_rules.specs.RuleFaults.{of_entity, of_interface, broken_names, broken_walks, broken_shapes, broken_ends, rule_fault}

fault_of : List block.Block → Option TopologyFault
fault_of blocks = rule_fault (entities_of blocks) (declared_settings blocks) (streaming_interfaces_of (entities_of blocks) (declared_settings blocks))

by_entity : ℕ → ℕ → Option TopologyFault
by_entity rule id = Some (record { rule = rule; id = id; interface = false })

by_interface : ℕ → ℕ → Option TopologyFault
by_interface rule number = Some (record { rule = rule; id = number; interface = true })

clock : ℕ → block.Block
clock id = row.ClockSource (record { id = id; attributes = 3; controls = 7; assoc = 0; name = 0 })

clock_selector : ℕ → List ℕ → block.Block
clock_selector id sources = row.ClockSelector (record { id = id; sources = sources; controls = 0; name = 0 })

multiplier : ℕ → ℕ → block.Block
multiplier id source = row.ClockMultiplier (record { id = id; source = source; controls = 0; name = 0 })

-- a USB streaming terminal under a clock, with so many channels of no location
input : ℕ → ℕ → ℕ → block.Block
input id clock channels =
    row.InputTerminal (record { id = id; terminal_type = 257; assoc = 0; clock = clock; channels = channels; locations = 0; names = 0; controls = 0; name = 0 })

-- a loudspeaker
output : ℕ → ℕ → ℕ → block.Block
output id source clock = row.OutputTerminal (record { id = id; terminal_type = 769; assoc = 0; source = source; clock = clock; controls = 0; name = 0 })

feature : ℕ → ℕ → List ℕ → block.Block
feature id source words = row.Feature (record { id = id; source = source; words = words; name = 0 })

selector : ℕ → List ℕ → block.Block
selector id sources = row.Selector (record { id = id; sources = sources; controls = 0; name = 0 })

setting : ℕ → ℕ → ℕ → block.Block
setting interface number endpoints =
    row.Interface (record { number = interface; setting = number; endpoints = endpoints; class = 1; subclass = 2; protocol = 32; name = 0 })

general : ℕ → block.Block
general link = row.General (record { link = link; controls = 0; format_type = 1; formats = 1; channels = 2; locations = 0; names = 0 })

format : block.Block
format = row.TypeOne (record { subslot = 2; bits = 16 })

-- an isochronous endpoint of data, OUT
endpoint : block.Block
endpoint = row.Endpoint (record { address = 1; attributes = 5; max_packet = 200; interval = 1 })

-- a stereo input terminal 2 under clock 1, and an output terminal 4 of what an entity puts out
between : List block.Block → ℕ → List block.Block
between units source = clock 1 ∷ input 2 1 2 ∷ units ++ output 4 source 1 ∷ []

-- a streaming interface of two settings, the second with so many endpoints and this link
streaming : ℕ → ℕ → ℕ → List block.Block
streaming interface endpoints link = setting interface 0 0 ∷ setting interface 1 endpoints ∷ general link ∷ format ∷ endpoint ∷ []

-- streaming interfaces n, .. 2, 1 of setting 0 alone
idle : ℕ → List block.Block
idle zero = []
idle (suc n) = setting (suc n) 0 0 ∷ idle n

-- an id of 0
zero_id : List block.Block
zero_id = between (feature 0 2 (0 ∷ 0 ∷ 0 ∷ []) ∷ []) 2

-- a feature with the id of the terminal before it
repeated_id : List block.Block
repeated_id = between (feature 2 2 (0 ∷ 0 ∷ 0 ∷ []) ∷ []) 2

-- two that name no entity: the first
unknown_source : List block.Block
unknown_source = between (feature 3 9 (0 ∷ 0 ∷ 0 ∷ []) ∷ []) 8

-- a feature whose source is a clock, in front of one whose source is an output terminal
silent_source : List block.Block
silent_source = between (feature 3 1 (0 ∷ 0 ∷ 0 ∷ []) ∷ feature 5 4 (0 ∷ 0 ∷ 0 ∷ []) ∷ []) 2

-- an input terminal whose clock is itself
unknown_clock : List block.Block
unknown_clock = clock 1 ∷ input 2 2 2 ∷ output 4 2 1 ∷ []

-- an output terminal in front of two features that feed each other
signal_cycle : List block.Block
signal_cycle = clock 1 ∷ input 2 1 2 ∷ output 4 3 1 ∷ feature 3 5 (0 ∷ 0 ∷ 0 ∷ []) ∷ feature 5 3 (0 ∷ 0 ∷ 0 ∷ []) ∷ []

-- a clock selector and a multiplier that feed each other, behind a sound clock
clock_cycle : List block.Block
clock_cycle = between (clock_selector 6 (1 ∷ 7 ∷ []) ∷ multiplier 7 6 ∷ []) 2

-- an input terminal of no channels
wrong_cluster : List block.Block
wrong_cluster = clock 1 ∷ input 2 1 0 ∷ output 4 2 1 ∷ []

-- a feature of two channels with two words
wrong_size : List block.Block
wrong_size = between (feature 3 2 (0 ∷ 0 ∷ []) ∷ []) 3

-- a selector of two channels and one
unequal_pins : List block.Block
unequal_pins = between (input 5 1 1 ∷ selector 6 (2 ∷ 5 ∷ []) ∷ []) 6

-- an output terminal under another clock than its input terminal
other_clock : List block.Block
other_clock = clock 1 ∷ clock 9 ∷ input 2 1 2 ∷ output 4 2 9 ∷ []

-- a link to the loudspeaker
wrong_link : List block.Block
wrong_link = between [] 2 ++ streaming 1 1 4

-- a setting of two endpoints that has one
wrong_endpoints : List block.Block
wrong_endpoints = between [] 2 ++ streaming 1 2 2

-- a selector of nine pins with 32 channels each
too_many_channels : List block.Block
too_many_channels = clock 1 ∷ input 2 1 32 ∷ selector 3 (2 ∷ 2 ∷ 2 ∷ 2 ∷ 2 ∷ 2 ∷ 2 ∷ 2 ∷ 2 ∷ []) ∷ output 4 3 1 ∷ []

-- nine streaming interfaces: the ninth
too_many_streams : List block.Block
too_many_streams = between [] 2 ++ idle 9

-- each rule names its first offender; U14 an entity, or a streaming interface
each_rule : map fault_of
    (zero_id ∷ repeated_id ∷ unknown_source ∷ silent_source ∷ unknown_clock ∷ signal_cycle ∷ clock_cycle ∷ wrong_cluster ∷ wrong_size ∷ unequal_pins ∷ other_clock ∷ wrong_link ∷ wrong_endpoints ∷ too_many_channels ∷ too_many_streams ∷ [])
    ≡ by_entity 1 0 ∷ by_entity 2 2 ∷ by_entity 3 3 ∷ by_entity 4 3 ∷ by_entity 5 2 ∷ by_entity 6 4 ∷ by_entity 7 6 ∷ by_entity 8 2 ∷ by_entity 9 3 ∷ by_entity 10 6 ∷ by_entity 11 4 ∷ by_interface 12 1 ∷ by_interface 13 1 ∷ by_entity 14 3 ∷ by_interface 14 1 ∷ []
unfolding entity_of declared_settings declared_setting_at is_streaming_interface own_blocks ends_setting general_of format_of endpoint_of streaming_interface_at streaming_interface_of setting_on_interface link_of entity_by_id has_walk at first_index_of index_of kind_of signal_sources clock_sources cluster_step cluster_within cluster_of pins clocks_step clocks_within clocks_of names_new clock_named each_once domains_of first_index offender number_at interface_offender breaks_u1 breaks_u2 breaks_u3 breaks_u4 breaks_u5 breaks_u6 breaks_u7 breaks_u8 breaks_u9 breaks_u10 breaks_u11 breaks_u12 breaks_u13 names_ninth breaks_u14 at_stream is_usb is_wrong exceeds of_entity of_interface broken_names broken_walks broken_shapes broken_ends rule_fault fault_of ones ones_in by_entity by_interface clock clock_selector multiplier input output feature selector setting general format endpoint between streaming idle zero_id repeated_id unknown_source silent_source unknown_clock signal_cycle clock_cycle wrong_cluster wrong_size unequal_pins other_clock wrong_link wrong_endpoints too_many_channels too_many_streams
each_rule = refl
