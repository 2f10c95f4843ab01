-- The rules G3 to G9, each by itself, over what the blocks so far leave to be remembered.
use Rattle.std.specs.Prelude.{ℕ, ◌+◌, Bool, true, false, ◌&&◌, ◌||◌, not, ◌==◌, nat_lt, if◌then◌else◌, List, [], ◌∷◌, length, replicate}
use Rattle.std.specs.Prelude.{slice_index_or, slice_set, Option, Some, None, is_none}
use Rattle.std.specs.Option.{option_map, option_map_or}
use Rattle.uac_descriptor.specs.declared.context.Context.TheVariants as context
use Rattle.uac_descriptor.specs.Kinds.{as_configuration, as_header}
use Rattle.uac_descriptor.specs.BlockParsing.{block_of}
use Rattle.uac_descriptor.specs.declared.standard.Interface as interface
use Rattle.uac_descriptor.specs.declared.block.Block as block
use Rattle.uac_grammar_rules.specs.declared.roles.BlockRole.{BlockRole}
use Rattle.uac_grammar_rules.specs.declared.roles.BlockRole.TheVariants as role
use Rattle.uac_grammar_rules.specs.declared.stages.OrderStage.{OrderStage}
use Rattle.uac_grammar_rules.specs.declared.stages.OrderStage.TheVariants as stage
use Rattle.uac_grammar_rules.specs.declared.states.Latest.{Latest}
use Rattle.uac_grammar_rules.specs.declared.states.Listing.{Listing}
use Rattle.uac_grammar_rules.specs.declared.states.Listing.TheVariants as listing
use Rattle.uac_grammar_rules.specs.declared.states.State.{State}
use Rattle.uac_descriptor.specs.Classes.{is_control_interface, is_streaming_interface}
use Rattle.uac_descriptor.specs.BlockTurns.{interface_of}
use Rattle.uac_grammar_rules.specs.BlockRole.{role_of, context_after, is_listed}
use Rattle.uac_grammar_rules.specs.OrderStages.{next_stage, may_end, is_before_association}
use Rattle.uac_grammar_rules.specs.Values.{has_wrong_value}
use Rattle.uac_grammar_rules.specs.Fault.{GrammarFault, Rules, faults_from}

-- ---- the configuration's total: wTotalLength, USB 2.0, 9.6.3

-- where the total ends, once the configuration is read
abbrev pub end_after : Option ℕ → ℕ → block.Block → Option ℕ
end_after (Some end) place b = Some end
end_after None place b = option_map (λ c. place + c.total) (as_configuration b)

-- the total ends before this place
abbrev pub ends_before : Option ℕ → ℕ → Bool
ends_before (Some end) place = nat_lt end place
ends_before None place = false

-- the total ends after this place
abbrev pub ends_after : Option ℕ → ℕ → Bool
ends_after (Some end) place = nat_lt place end
ends_after None place = false

-- ---- the header's total: wTotalLength, Audio Class 2.0, 4.7.2

abbrev pub listing_after : Listing → ℕ → block.Block → Listing
listing_after listing.Awaited place b = option_map_or (λ h. listing.Open (place + h.total)) (as_header b) listing.Awaited
listing_after (listing.Open end) place b = if is_listed (role_of b) then listing.Open end else listing.Closed
listing_after listing.Closed place b = listing.Closed

-- the place where the list is to end
abbrev pub list_end : Listing → Option ℕ
list_end (listing.Open end) = Some end
list_end listing.Awaited = None
list_end listing.Closed = None

-- ---- the numbers of interfaces and their settings: USB 2.0, 9.6.5

abbrev pub used_after : List Bool → block.Block → List Bool
used_after used b =
    option_map_or (λ i. if is_control_interface i || is_streaming_interface i then slice_set used i.number true else used)
    (interface_of b) used

abbrev pub latest_after : Option Latest → block.Block → Option Latest
latest_after latest b =
    option_map_or (λ i. if is_streaming_interface i then Some (record { number = i.number; setting = i.setting }) else None)
    (interface_of b) latest

-- the interface is the next setting of the latest one
abbrev pub continues : Option Latest → interface.Interface → Bool
continues None i = false
continues (Some latest) i = i.number == latest.number && i.setting == latest.setting + 1

-- setting 0 of a streaming interface has a new number, and every other follows the one before it
unfoldable pub is_in_turn : List Bool → Option Latest → block.Block → Bool
is_in_turn used latest b =
    option_map_or (λ i. not (is_streaming_interface i)
    || (if i.setting == 0 then not (slice_index_or used i.number false) else continues latest i)) (interface_of b) true

-- ---- the rules

abbrev pub stage_after : Option OrderStage → OrderStage → OrderStage
stage_after None stage = stage
stage_after (Some next) stage = next

-- the state after a block at this place
unfoldable pub state_after : State → ℕ → block.Block → State
state_after s place b =
    record {
      context = context_after s.context b;
      stage = stage_after (next_stage s.stage (role_of b)) s.stage;
      used = used_after s.used b;
      latest = latest_after s.latest b;
      end = end_after s.end place b;
      listing = listing_after s.listing place b;
    }

-- before the first block
unfoldable pub start : State
start =
    record {
      context = context.DeviceFront;
      stage = stage.Start;
      used = replicate 256 false;
      latest = None;
      end = None;
      listing = listing.Awaited;
    }

-- G5: the first block that ends past the configuration's total, or in the list past the header's; or a block after the
-- list, where the header's total ends later
unfoldable pub passes_total : Option ℕ → ℕ → ℕ → block.Block → Bool
passes_total end place size b = ends_before (end_after end place b) (place + size)

unfoldable pub passes_list : Listing → ℕ → ℕ → block.Block → Bool
passes_list list place size b = ends_before (list_end (listing_after list place b)) (place + size)

unfoldable pub ends_list_early : Listing → ℕ → BlockRole → Bool
ends_list_early list place k = not (is_listed k) && ends_after (list_end list) place

abbrev pub is_announced : OrderStage → Bool
is_announced stage.Announced = true
is_announced _ = false

abbrev pub is_listing : OrderStage → Bool
is_listing stage.Listing = true
is_listing _ = false

abbrev pub is_audio_interface : BlockRole → Bool
is_audio_interface role.Device = false
is_audio_interface role.Configuration = false
is_audio_interface role.AudioAssociation = false
is_audio_interface role.ForeignAssociation = false
is_audio_interface role.ControlInterface = true
is_audio_interface role.StreamingInterface = true
is_audio_interface role.ForeignInterface = false
is_audio_interface role.Endpoint = false
is_audio_interface role.Header = false
is_audio_interface role.Entity = false
is_audio_interface role.General = false
is_audio_interface role.TypeOne = false
is_audio_interface role.Extra = false
is_audio_interface role.ClassEndpoint = false
is_audio_interface role.Other = false
is_audio_interface role.UnknownSubtype = false
is_audio_interface role.Stray = false

abbrev pub is_control : BlockRole → Bool
is_control role.ControlInterface = true
is_control _ = false

abbrev pub is_unknown : BlockRole → Bool
is_unknown role.UnknownSubtype = true
is_unknown _ = false

abbrev pub is_association : BlockRole → Bool
is_association role.AudioAssociation = true
is_association _ = false

-- the control interface was read
abbrev pub is_past_control : OrderStage → Bool
is_past_control s = not (is_before_association s) && not (is_announced s)

-- G7: a control or streaming interface before the audio association, or another block than a control interface after it
unfoldable pub lacks_association : OrderStage → BlockRole → Bool
lacks_association s k = is_before_association s && is_audio_interface k || is_announced s && not (is_control k)

-- G8: in the list of entities, a class block of an unknown subtype
unfoldable pub lists_unknown : OrderStage → BlockRole → Bool
lists_unknown s k = is_listing s && is_unknown k

-- G9: a second audio association or a second control interface
unfoldable pub comes_again : OrderStage → BlockRole → Bool
comes_again s k = not (is_before_association s) && is_association k || is_past_control s && is_control k

-- the sentence does not allow the block here
unfoldable pub is_refused : State → block.Block → Bool
is_refused s b = is_none (next_stage s.stage (role_of b)) || not (is_in_turn s.used s.latest b)

-- G6: a block that the sentence does not allow, and that G7, G8 and G9 do not name
unfoldable pub is_out_of_order : State → block.Block → Bool
is_out_of_order s b =
    is_refused s b
    && not (lacks_association s.stage (role_of b) || lists_unknown s.stage (role_of b) || comes_again s.stage (role_of b))

-- the least rule of a table that is broken
abbrev pub least : List (ℕ × Bool) → Option ℕ
least [] = None
least ((rule, broken) ∷ rules) = if broken then Some rule else least rules

-- the least rule that a block breaks, of this size at this place
unfoldable pub rule_broken : State → ℕ → ℕ → block.Block → Option ℕ
rule_broken s place size b =
    least (
    (4, has_wrong_value s.context b)
    ∷ (5, passes_total s.end place size b || passes_list s.listing place size b || ends_list_early s.listing place (role_of b))
    ∷ (6, is_out_of_order s b)
    ∷ (7, lacks_association s.stage (role_of b))
    ∷ (8, lists_unknown s.stage (role_of b))
    ∷ (9, comes_again s.stage (role_of b)) ∷ [])

-- the least rule that is broken where the input ends at this place
abbrev pub is_due : OrderStage → Bool
is_due stage.Start = true
is_due stage.Due = true
is_due _ = false

abbrev pub is_headless : OrderStage → Bool
is_headless stage.Headless = true
is_headless _ = false

unfoldable pub rule_at_end : State → ℕ → Option ℕ
rule_at_end s place =
    least (
    (1, is_due s.stage)
    ∷ (5, ends_after s.end place || ends_after (list_end s.listing) place)
    ∷ (6, is_headless s.stage)
    ∷ (7, not (may_end s.stage)) ∷ [])

-- ---- the grammar

-- G3, where the bytes of a block are none that its layout reads, and then the others
abbrev pub rule_read : State → ℕ → ℕ → Option block.Block → Option ℕ
rule_read s place size None = Some 3
rule_read s place size (Some b) = rule_broken s place size b

abbrev pub state_read : State → ℕ → Option block.Block → State
state_read s place None = s
state_read s place (Some b) = state_after s place b

unfoldable pub grammar : Rules State
grammar =
    record {
      broken = λ s place piece. rule_read s place (length piece) (block_of s.context piece);
      after = λ s place piece. state_read s place (block_of s.context piece);
      ended = rule_at_end;
    }

-- the first fault of a descriptor: the broken rule at the least place, and at one place the least rule
unfoldable pub first_fault : List ℕ → Option GrammarFault
first_fault bytes = faults_from grammar start 0 bytes
