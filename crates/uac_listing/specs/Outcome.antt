-- What is said of a descriptor and how that ends, from the bytes that were taken of the input (profile).
use Rattle.std.specs.Prelude.{◌≡◌, ℕ, List, [], ◌∷◌, ◌++◌, length, flat_map, None, Some, codes, decimal}
use Rattle.uac_descriptor.specs.declared.block.Block.{Block}
use Rattle.uac_grammar_rules.specs.declared.faults.GrammarFault.{GrammarFault}
use Rattle.uac_grammar_rules.specs.Grammar.{first_fault}
use Rattle.uac_grammar_rules.specs.Sentence.{IsSentence}
use Rattle.uac_grammar.specs.Stop.{shown_fault}
use Rattle.uac_topology_rules.specs.declared.fault.TopologyFault.{TopologyFault}
use Rattle.uac_topology.specs.Function.{FunctionFields}
use Rattle.uac_topology.specs.Topology.{first_fault_of, IsSound, IsFunctionOf}
use Rattle.uac_listing.specs.declared.description.Description.{Description}
use Rattle.uac_listing.specs.declared.description.Description.TheVariants.{Check, Elements, Show}
use Rattle.uac_ends.specs.declared.status.Status.TheVariants as statuses
use Rattle.uac_ends.specs.Outcome.{End, Outcome, at_end, read_failed, read_fault, refusal, unsound}
use Rattle.uac_listing.specs.EntityLines.{entity_line}
use Rattle.uac_listing.specs.SettingLines.{setting_lines}
use Rattle.uac_listing.specs.ElementLines.{element_lines}
use Rattle.uac_mixer.specs.ViewWorld.{known_view}
use Rattle.uac_store.specs.StoreControls.{initial_controls}
use Rattle.uac_listing.specs.BlockLines.{block_lines}

-- what is printed of a sound descriptor, its blocks and its function
abbrev pub listing_of : Description → List Block → FunctionFields → List ℕ
listing_of Check blocks function =
    codes "ok blocks " ++ decimal (length blocks) ++ codes " entities " ++ decimal (length function.entities)
    ++ codes " streams " ++ decimal (length function.streams) ++ codes " domains " ++ decimal (length function.domains) ++ codes "\n"
listing_of Show blocks function =
    block_lines 0 blocks ++ (flat_map entity_line function.entities ++ setting_lines function (initial_controls function.entities))
listing_of Elements blocks function = element_lines (known_view function.entities (initial_controls function.entities)).elements

-- a descriptor is sound
abbrev pub sound : Description → List Block → FunctionFields → Outcome
sound description blocks function = record { text = listing_of description blocks function; status = statuses.Ok }

-- what the topology says of blocks
pub data IsTopologyVerdict (description : Description) (blocks : List Block) : Outcome → Type 0 where
  -- their function is sound
  is_sound : (function : FunctionFields) → IsSound blocks → IsFunctionOf function blocks
      → IsTopologyVerdict description blocks (sound description blocks function)
  -- the descriptor breaks this rule first
  is_broken : (fault : TopologyFault) → first_fault_of blocks ≡ Some fault
      → IsTopologyVerdict description blocks (unsound fault)

-- What is said of a descriptor, by what was taken and why no more was.
pub data IsOutcomeOf (description : Description) (taken : List ℕ) : End → Outcome → Type 0 where
  -- the bytes show a fault, whatever would follow
  shows_fault : (end : End) (fault : GrammarFault) → shown_fault taken ≡ Some fault
      → IsOutcomeOf description taken end (refusal fault)
  -- no fault is shown, and a read failed
  fails : shown_fault taken ≡ None → IsOutcomeOf description taken read_failed read_fault
  -- the bytes are all, and have a fault
  ends_in_fault : (fault : GrammarFault) → first_fault taken ≡ Some fault
      → IsOutcomeOf description taken at_end (refusal fault)
  -- the bytes are all, and are these blocks
  is_read : (blocks : List Block) (outcome : Outcome) → IsSentence taken blocks → IsTopologyVerdict description blocks outcome
      → IsOutcomeOf description taken at_end outcome
