-- The least broken rule, and its first offender in block order (profile).
use Rattle.std.specs.Prelude.{ℕ, Bool, true, false, List, [], ◌∷◌, Option, None}
use Rattle.std.specs.Option.{option_map, option_or}
use Rattle.uac_entities.specs.declared.settings.DeclaredSetting.{DeclaredSetting}
use Rattle.uac_entities.specs.declared.entity.Entity.{Entity}
use Rattle.uac_entities.specs.declared.stream.StreamInterface.{StreamInterface}
use Rattle.uac_topology_rules.specs.declared.fault.TopologyFault.{TopologyFault}
use Rattle.uac_topology_rules.specs.Offenders.{offender, interface_offender}
use Rattle.uac_topology_rules.specs.Rules as rules

-- an entity breaks a rule
unfoldable pub of_entity : ℕ → List Entity → (List Entity → ℕ → Bool) → Option TopologyFault
of_entity rule entities breaks = option_map (λ id. record { rule = rule; id = id; interface = false }) (offender entities (breaks entities))

-- a streaming interface breaks a rule
unfoldable pub of_interface : ℕ → List StreamInterface → (List StreamInterface → ℕ → Bool) → Option TopologyFault
of_interface rule streams breaks = option_map (λ number. record { rule = rule; id = number; interface = true })
    (interface_offender streams (breaks streams))

-- the first of some faults
abbrev pub first_some : List (Option TopologyFault) → Option TopologyFault
first_some [] = None
first_some (fault ∷ faults) = option_or fault (first_some faults)

-- what ids name
unfoldable pub broken_names : List Entity → Option TopologyFault
broken_names entities =
    first_some (
    of_entity 1 entities rules.breaks_u1
    ∷ of_entity 2 entities rules.breaks_u2
    ∷ of_entity 3 entities rules.breaks_u3
    ∷ of_entity 4 entities rules.breaks_u4
    ∷ of_entity 5 entities rules.breaks_u5
    ∷ [])

-- where links lead
unfoldable pub broken_walks : List Entity → Option TopologyFault
broken_walks entities = first_some (of_entity 6 entities rules.breaks_u6 ∷ of_entity 7 entities rules.breaks_u7 ∷ [])

-- clusters, sizes and clocks
unfoldable pub broken_shapes : List Entity → Option TopologyFault
broken_shapes entities =
    first_some (
    of_entity 8 entities rules.breaks_u8
    ∷ of_entity 9 entities rules.breaks_u9
    ∷ of_entity 10 entities rules.breaks_u10
    ∷ of_entity 11 entities rules.breaks_u11
    ∷ [])

-- streaming interfaces, and then the limits
unfoldable pub broken_ends : List Entity → List DeclaredSetting → List StreamInterface → Option TopologyFault
broken_ends entities all streams =
    first_some (
    of_interface 12 streams (rules.breaks_u12 entities)
    ∷ of_interface 13 streams (rules.breaks_u13 all)
    ∷ of_entity 14 entities rules.breaks_u14
    ∷ of_interface 14 streams rules.exceeds
    ∷ [])

-- the least broken rule with its first offender
unfoldable pub rule_fault : List Entity → List DeclaredSetting → List StreamInterface → Option TopologyFault
rule_fault entities all streams =
    first_some (broken_names entities ∷ broken_walks entities ∷ broken_shapes entities ∷ broken_ends entities all streams ∷ [])
