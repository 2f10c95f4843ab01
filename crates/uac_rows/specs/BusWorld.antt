-- The world under a script, and what each line makes of it (profile).
use Rattle.std.specs.Prelude.{ℕ, Bool, true, false, List, [], ◌∷◌, ◌++◌, length, Option, None, Some}
use Rattle.std.specs.Prelude.{Result, Ok, Err}
use Rattle.std.specs.List.{list_all}
use Rattle.uac_pcm.specs.declared.tones.Tone.{Tone}
use Rattle.uac_pcm.specs.declared.tones.Tone.TheVariants.{Silent, Ramp, Noise}
use Rattle.uac_grammar_rules.specs.declared.faults.GrammarFault.{GrammarFault}
use Rattle.uac_grammar_rules.specs.Grammar.{first_fault}
use Rattle.uac_grammar.specs.Stop.{shown_fault}
use Rattle.uac_topology_rules.specs.declared.fault.TopologyFault.{TopologyFault}
use Rattle.uac_topology.specs.Topology.{first_fault_of}
use Rattle.uac_units.specs.Hearing.{Reading}
use Rattle.uac_script.specs.Phrase.{PhraseTone, silent, ramp_tone, noise_tone}
use Rattle.uac_script.specs.Phrase.{Phrase, nothing_line, bytes_line, go_line, control_line, get_line, set_line, show_line, break_line}
use Rattle.uac_script.specs.Phrase.{append_line, track_line, jack_line, deviate_line, microframes_line, detail_line, report_line}
use Rattle.uac_transcript.specs.Transcript.{Said}
use Rattle.uac_running.specs.RunningWorld.{RunningWorld, at_start, with_jack_tone, with_deviation, with_detail}
use Rattle.uac_running.specs.RunningWorld.{with_samples_on, with_track}
use Rattle.uac_running.specs.RunningNames.{are_frames, has_domain, has_jack, has_out, names_stream, natural_of_int}
use Rattle.uac_streaming.specs.Telling.{Telling}
use Rattle.uac_running.specs.Events.{microframes}
use Rattle.uac_running.specs.RunningTransfers.{element_named, read_element, set_element, show_element, transfer, with_break}
use Rattle.uac_request.specs.Requests.{setup_of}
use Rattle.uac_mixer.specs.MixerElements.{fits_element}
use Rattle.uac_mixer.specs.declared.element.Element.{Element}
use Rattle.uac_running.specs.RunningLines.{ready_line, report_lines}
use Rattle.uac_fault.specs.declared.fault.BusFault.{BusFault}
use Rattle.uac_fault.specs.declared.fault.BusFault.TheVariants as faults
use Rattle.uac_topology.specs.Description.{blocks_of, function_of}

-- before the descriptor's end: its bytes so far, and what the meters show; and from there on the running device
pub data BusWorld : Type 0 where
  describing : List ℕ → List Reading → BusWorld
  running : RunningWorld → BusWorld

-- what a line makes of a world: the next world and the lines that it says, or the fault with which it is refused
pub data Step : Type 0 where
  done : BusWorld → List Said → Step
  refused : BusFault → Step

-- no line was done yet
abbrev pub start : List Reading → BusWorld
start meters = describing [] meters

abbrev pub tone_of : PhraseTone → Tone
tone_of silent = Silent
tone_of (ramp_tone first rise) = Ramp first rise
tone_of (noise_tone seed) = Noise (natural_of_int seed)

-- a line that breaks this rule of the script
abbrev pub breaks_rule : ℕ → Step
breaks_rule rule = refused (faults.Script rule)

-- a step that breaks the rule unless the condition holds
abbrev pub unless : Bool → ℕ → Step → Step
unless true rule step = step
unless false rule step = breaks_rule rule

-- a line that says nothing
abbrev pub silently : BusWorld → Step
silently w = done w []

abbrev pub if_no_fault : Option GrammarFault → Step → Step
if_no_fault None step = step
if_no_fault (Some fault) step = refused (faults.Grammar fault)

abbrev pub if_sound : Option TopologyFault → Step → Step
if_sound None step = step
if_sound (Some fault) step = refused (faults.Topology fault)

-- ---- before the descriptor's end

-- more bytes: the first fault that the bytes show is refused
unfoldable pub step_feed : List ℕ → List Reading → Step
step_feed bytes meters = if_no_fault (shown_fault bytes) (silently (describing bytes meters))

-- the descriptor's end: its bytes are to be a descriptor, and its function sound
unfoldable pub step_go : List ℕ → List Reading → Step
step_go bytes meters =
    let function = function_of (blocks_of bytes) in
    if_no_fault (first_fault bytes)
    (if_sound (first_fault_of (blocks_of bytes)) (done (running (at_start bytes function meters)) (ready_line function ∷ [])))

abbrev pub step_describing : List ℕ → List Reading → Phrase → Step
step_describing bytes meters nothing_line = silently (describing bytes meters)
step_describing bytes meters (bytes_line more) = step_feed (bytes ++ more) meters
step_describing bytes meters go_line = step_go bytes meters
step_describing bytes meters (control_line setup sent) = breaks_rule 5
step_describing bytes meters (get_line name) = breaks_rule 5
step_describing bytes meters (set_line name value) = breaks_rule 5
step_describing bytes meters (show_line name) = breaks_rule 5
step_describing bytes meters (break_line after) = breaks_rule 5
step_describing bytes meters (append_line number samples) = breaks_rule 5
step_describing bytes meters (track_line number tone) = breaks_rule 5
step_describing bytes meters (jack_line terminal tone) = breaks_rule 5
step_describing bytes meters (deviate_line domain ppm) = breaks_rule 5
step_describing bytes meters (microframes_line count marks) = breaks_rule 5
step_describing bytes meters (detail_line level) = breaks_rule 5
step_describing bytes meters report_line = breaks_rule 5

-- ---- from there on

abbrev pub step_telling : Telling RunningWorld → Step
step_telling t = done (running t.world) t.lines

-- what a line makes of the element that it names; there is to be one
abbrev pub on_element : Option Element → (Element → Step) → Step
on_element None step = breaks_rule 6
on_element (Some x) step = step x

abbrev pub step_running : RunningWorld → Phrase → Step
step_running r nothing_line = silently (running r)
step_running r (bytes_line more) = breaks_rule 5
step_running r go_line = breaks_rule 5
step_running r (control_line setup sent) = step_telling (transfer (setup_of setup) sent r)
step_running r (get_line name) = on_element (element_named r name) (λ x. step_telling (read_element x r))
step_running r (set_line name value) =
    on_element (element_named r name) (λ x. unless (fits_element x.kind value) 7 (step_telling (set_element x value r)))
step_running r (show_line name) = on_element (element_named r name) (λ x. step_telling (show_element x r))
step_running r (break_line after) = silently (running (with_break after r))
step_running r (append_line number samples) =
    unless (has_out r.device.function (natural_of_int number)) 6
    (unless (are_frames r.device.function (natural_of_int number) (length samples)) 7
    (silently (running (with_samples_on (natural_of_int number) samples r))))
step_running r (track_line number tone) =
    unless (has_out r.device.function (natural_of_int number)) 6
    (silently (running (with_track (natural_of_int number) (tone_of tone) r)))
step_running r (jack_line terminal tone) =
    unless (has_jack r (natural_of_int terminal)) 6 (silently (running (with_jack_tone (natural_of_int terminal) (tone_of tone) r)))
step_running r (deviate_line domain ppm) =
    unless (has_domain r (natural_of_int domain)) 6 (silently (running (with_deviation (natural_of_int domain) ppm r)))
step_running r (microframes_line count marks) =
    unless (list_all (names_stream r.device.function) marks) 6 (step_telling (microframes marks (natural_of_int count) r))
step_running r (detail_line level) = silently (running (with_detail (natural_of_int level) r))
step_running r report_line = done (running r) (report_lines r)

-- what a line makes of a world
unfoldable pub step : Phrase → BusWorld → Step
step phrase (describing bytes meters) = step_describing bytes meters phrase
step phrase (running r) = step_running r phrase

-- the script's end: a descriptor's end is to have come
abbrev pub finish_of : BusWorld → Result (Unit {0}) BusFault
finish_of (describing bytes meters) = Err (faults.Script 8)
finish_of (running r) = Ok tt

-- what the meters show in a world
abbrev pub meters_in : BusWorld → List Reading
meters_in (describing bytes meters) = meters
meters_in (running r) = r.meters
