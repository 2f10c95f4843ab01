-- Control transfers of a running device, what comes back of them, and what they make of the host's view (USB 2.0, 8.5.3 and 9.4; Audio
-- Class 2.0, 5.2). That a transfer breaks, before or after the device acted, is this project's own.
use Rattle.std.specs.Prelude.{◌≡◌, ℕ, ◌&&◌, not, Bool, true, false, if◌then◌else◌, ℤ, pos, List, [], ◌∷◌, drop, take, Option}
use Rattle.std.specs.Prelude.{None, Some, is_some, unwrap_or, Result, Ok, Err}
use Rattle.std.specs.List.{find}
use Rattle.std.specs.Str.{bytes_eq}
use Rattle.uac_topology.specs.Configuration.{configuration_of}
use Rattle.uac_store.specs.Keyed.{value_of}
use Rattle.uac_request.specs.Requests.{AnswerFields, request_state, reply_of, value_bytes, sets_interface}
use Rattle.uac_request.specs.Requests.{with_bytes, with_descriptor, is_done, is_stalled, is_done_answer}
use Rattle.uac_request.specs.declared.setup.Setup.{Setup}
use Rattle.uac_device.specs.DeviceWorld.{BegunFields, DeviceWorld, after_control, stream_in_setting}
use Rattle.uac_streaming.specs.StreamingWorld.{StreamingWorld, after_following}
use Rattle.uac_mixer.specs.MixerElements.{name_of, width_of}
use Rattle.uac_mixer.specs.ViewTransfers.{get_of, set_of, view_after}
use Rattle.uac_mixer.specs.declared.element.Element.{Element}
use Rattle.uac_mixer.specs.declared.link.Broken.{Broken}
use Rattle.uac_mixer.specs.declared.link.When.{When}
use Rattle.uac_mixer.specs.declared.link.When.TheVariants as when
use Rattle.uac_transcript.specs.Transcript.{TransferOutcome, gave, was_done, transfer_was_stalled, broke, Sight, element_has_value}
use Rattle.uac_transcript.specs.Transcript.{is_unknown, was_set}
use Rattle.uac_transcript.specs.Transcript.{element_was_stalled}
use Rattle.uac_transcript.specs.Transcript.{was_broken, says_answer, says_view}
use Rattle.uac_running.specs.RunningWorld.{RunningWorld, streaming_of, with_streaming}
use Rattle.uac_streaming.specs.Telling.{Telling, without_event}

-- ---- a transfer

-- what the device would answer
abbrev pub reply_in : Setup → List ℕ → RunningWorld → AnswerFields
reply_in p sent r = reply_of r.device.function (request_state r.device.controls r.device.settings) p sent

-- what comes back of the next transfer: nothing where it breaks
unfoldable pub comes_back : Setup → List ℕ → RunningWorld → Option AnswerFields
comes_back p sent r = if is_some r.breaks then None else Some (reply_in p sent r)

-- a transfer breaks before the device acts
abbrev pub breaks_before : Option When → Bool
breaks_before None = false
breaks_before (Some when.Before) = true
breaks_before (Some when.After) = false

-- the device acts, unless the transfer breaks before
abbrev pub acts : Option When → DeviceWorld → DeviceWorld → DeviceWorld
acts None resting acted = acted
acts (Some when.Before) resting acted = resting
acts (Some when.After) resting acted = acted

-- a transfer after which the device holds another setting of an interface: it acted, and was done
abbrev pub holds_setting : Setup → List ℕ → RunningWorld → Bool
holds_setting p sent r = sets_interface p && (not (breaks_before r.breaks) && is_done_answer (reply_in p sent r))

-- the host's streams follow the device: that of an interface whose setting it holds starts anew or stops, also where the transfer broke
abbrev pub streams_follow : Setup → List ℕ → RunningWorld → StreamingWorld → StreamingWorld
streams_follow p sent r s =
    if holds_setting p sent r
    then after_following p.index (stream_in_setting r.device.function r.device.controls p.index p.value) s
    else s

-- the host's streams after a request that began this, if anything
abbrev pub with_begun : Option BegunFields → StreamingWorld → StreamingWorld
with_begun None s = s
with_begun (Some begun) s = after_following begun.interface begun.stream s

-- the world after a transfer: the device acted, the host's streams follow it, the view follows what came back, and a pending break is
-- used up
unfoldable pub after_transfer : Setup → List ℕ → RunningWorld → RunningWorld
after_transfer p sent r =
    record (with_streaming r
    (streams_follow p sent r (record (streaming_of r) { device = acts r.breaks r.device (after_control p sent r.device) }))) {
      view = view_after r.device.function.control_interface p sent (comes_back p sent r) r.view;
      breaks = None;
    }

-- the next transfer breaks then; a break that was pending is forgotten
abbrev pub break_at : Bool → When
break_at after = if after then when.After else when.Before

unfoldable pub with_break : Bool → RunningWorld → RunningWorld
with_break after r = record r { breaks = Some (break_at after) }

-- ---- what is said of it

-- a piece of the configuration's bytes
abbrev pub piece : ℕ → ℕ → List ℕ → List ℕ
piece from to bytes = drop from (take to bytes)

-- what came back, as a line says it: a descriptor is a piece of the configuration's bytes
unfoldable pub outcome_of : List ℕ → Option AnswerFields → TransferOutcome
outcome_of configuration None = broke
outcome_of configuration (Some (with_bytes bytes)) = gave bytes
outcome_of configuration (Some (with_descriptor from to)) = gave (piece from to configuration)
outcome_of configuration (Some is_done) = was_done
outcome_of configuration (Some (is_stalled rule)) = transfer_was_stalled rule

-- a control transfer
unfoldable pub transfer : Setup → List ℕ → RunningWorld → Telling RunningWorld
transfer p sent r =
    record {
      lines = says_answer (outcome_of (configuration_of r.descriptor) (comes_back p sent r)) ∷ [];
      world = after_transfer p sent r;
    }

-- ---- elements by their names

-- the first element with a name
unfoldable pub element_named : RunningWorld → List ℕ → Option Element
element_named r name = find (λ x. bytes_eq (name_of x) name) r.view.elements

-- an element's value is read: it is the device's, unless the transfer breaks
abbrev pub read_sight : Element → RunningWorld → Sight
read_sight x r = if is_some r.breaks then was_broken else element_has_value (name_of x)
    (unwrap_or (value_of r.device.controls x.key) (pos 0))

unfoldable pub read_element : Element → RunningWorld → Telling RunningWorld
read_element x r =
    record {
      lines = says_view (read_sight x r) ∷ [];
      world = after_transfer (get_of r.device.function.control_interface x) [] r;
    }

-- an element is set to a value
abbrev pub set_sight : Option AnswerFields → Sight
set_sight None = was_broken
set_sight (Some (with_bytes bytes)) = was_set
set_sight (Some (with_descriptor from to)) = was_set
set_sight (Some is_done) = was_set
set_sight (Some (is_stalled rule)) = element_was_stalled rule

unfoldable pub set_element : Element → ℤ → RunningWorld → Telling RunningWorld
set_element x value r =
    let p = set_of r.device.function.control_interface x in
    let bytes : List ℕ = value_bytes (width_of x.kind) value in
    record { lines = says_view (set_sight (comes_back p bytes r)) ∷ []; world = after_transfer p bytes r }

-- what the host knows of an element is shown, without a transfer
abbrev pub shown_sight : Element → Option ℤ → Sight
shown_sight x None = is_unknown (name_of x)
shown_sight x (Some value) = element_has_value (name_of x) value

unfoldable pub show_element : Element → RunningWorld → Telling RunningWorld
show_element x r = record (without_event r) { lines = says_view (shown_sight x x.value) ∷ [] }

-- what reading an element answers: the device's value, or that the transfer broke
abbrev pub IsRead : Element → RunningWorld → Result ℤ Broken → Type 0
IsRead x r (Ok value) = (is_some r.breaks ≡ false) × (value_of r.device.controls x.key ≡ Some value)
IsRead x r (Err broken) = is_some r.breaks ≡ true
