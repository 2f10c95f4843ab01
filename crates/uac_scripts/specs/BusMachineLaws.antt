-- What the driver asks of a machine, for the bus: that meters show the world for which they stand, that no step is refused for want of
-- memory, and that a line without words does nothing.
use Rattle.std.specs.Prelude.{◌≡◌, ◌≢◌, ℕ, Bool, true, false, List, [], ◌∷◌, ◌++◌, length, Option, None, Some, Result, Ok, Err, refl, map}
use Rattle.std.specs.List.{list_all}
use Rattle.uac_lines.specs.Words.{is_idle}
use Rattle.uac_grammar_rules.specs.declared.faults.GrammarFault.{GrammarFault}
use Rattle.uac_topology_rules.specs.declared.fault.TopologyFault.{TopologyFault}
use Rattle.uac_mixer.specs.declared.element.Element.{Element}
use Rattle.std.specs.declared.alloc.Global.{Global}
use Rattle.std.specs.declared.dyn_box.DynBox.{DynBox}
use Rattle.uac_units.specs.Hearing.{Reading}
use Rattle.uac_units.specs.declared.meter_list.Meters.{Meters}
use Rattle.uac_script.specs.LineParsing.{answer}
use Rattle.uac_script.specs.Phrase.{Phrase, nothing_line, bytes_line, go_line, control_line, get_line, set_line, show_line, break_line}
use Rattle.uac_script.specs.Phrase.{append_line, track_line, jack_line, deviate_line, microframes_line, detail_line, report_line}
use Rattle.uac_running.specs.RunningWorld.{RunningWorld, at_start, with_jack_tone, with_deviation, with_samples_on, with_track}
use Rattle.uac_running.specs.RunningNames.{are_frames, has_domain, has_jack, has_out, names_stream, natural_of_int}
use Rattle.uac_running.specs.Events.{microframes}
use Rattle.uac_running.specs.RunningTransfers.{element_named, read_element, set_element, show_element, transfer}
use Rattle.uac_running.specs.RunningLines.{ready_line}
use Rattle.uac_streaming.specs.Telling.{Telling}
use Rattle.uac_request.specs.Requests.{setup_of}
use Rattle.uac_mixer.specs.MixerElements.{fits_element}
use Rattle.uac_transcript.specs.Transcript.{Said}
use Rattle.uac_grammar_rules.specs.Grammar.{first_fault}
use Rattle.uac_grammar.specs.Stop.{shown_fault}
use Rattle.uac_topology.specs.Topology.{first_fault_of}
use Rattle.uac_topology.specs.Description.{blocks_of, function_of}
use Rattle.uac_rows.specs.BusWorld.{BusWorld, Step, describing, running, done, refused, meters_in, step, step_describing, step_running}
use Rattle.uac_rows.specs.BusWorld.{step_feed, step_go, step_telling, if_no_fault, if_sound, on_element, silently, tone_of, unless}
use Rattle.uac_bus.specs.declared.bus.BusStage.{BusStage}
use Rattle.uac_bus.specs.declared.bus.BusStage.TheVariants as stages
use Rattle.uac_rows.specs.After.{said_step}
use Rattle.uac_bus.specs.BusKept.{BusFields, BusStageStands, BusStands}
use Rattle.uac_ends.specs.declared.fault.LineFault.TheVariants as faults
use Rattle.uac_runner.specs.Machine.{IsFree}
use Rattle.uac_runner.specs.Machine as runner
use Rattle.uac_scripts.specs.BusMachine.{Sayings, bus_machine, lifted}

-- ---- what boxed meters show

-- what boxed meters show, by what each box shows
abbrev pub readings_by : {Table : Type 0} {Boxed : Table → Type 0} → (DynBox Table Global Boxed → Reading) → Meters Table Boxed → List Reading
readings_by reading meters = map reading meters.list.items

-- ---- what the meters show is the world's

stage_shows : (stage : BusStage) (shown : List Reading) (w : BusWorld) → BusStageStands stage shown w → shown ≡ meters_in w
stage_shows (stages.Describing reader) shown (describing bytes meters) s = s.2
stage_shows (stages.Describing reader) shown (running r) s = absurd s
stage_shows (stages.Running p) shown (describing bytes meters) s = absurd s
stage_shows (stages.Running p) shown (running r) s = s.now.meters

pub bus_shown : (bus : BusFields) (shown : List Reading) (w : BusWorld) → BusStands bus shown w → shown ≡ meters_in w
bus_shown bus shown w stands = stage_shows bus.stage shown w stands.stage

-- ---- no step is refused for want of memory

abbrev IsFreeStep : Step → Type 0
IsFreeStep s = lifted s ≢ runner.refused faults.NoMemory

free_unless : (b : Bool) (rule : ℕ) (s : Step) → IsFreeStep s → IsFreeStep (unless b rule s)
free_unless true rule s free = free
free_unless false rule s free = λ e. cc

free_unless_faulty : (o : Option GrammarFault) (s : Step) → IsFreeStep s → IsFreeStep (if_no_fault o s)
free_unless_faulty None s free = free
free_unless_faulty (Some fault) s free = λ e. cc

free_unless_unsound : (o : Option TopologyFault) (s : Step) → IsFreeStep s → IsFreeStep (if_sound o s)
free_unless_unsound None s free = free
free_unless_unsound (Some fault) s free = λ e. cc

free_on_element : (o : Option Element) (s : Element → Step) → ((x : Element) → IsFreeStep (s x)) → IsFreeStep (on_element o s)
free_on_element None s free = λ e. cc
free_on_element (Some x) s free = free x

free_done : (next : BusWorld) (lines : List Said) → IsFreeStep (done next lines)
free_done next lines e = cc

free_telling : (t : Telling RunningWorld) → IsFreeStep (step_telling t)
free_telling t e = cc

free_feed : (bytes : List ℕ) (meters : List Reading) → IsFreeStep (step_feed bytes meters)
unfolding step_feed
free_feed bytes meters = free_unless_faulty (shown_fault bytes) (silently (describing bytes meters)) (free_done (describing bytes meters) [])

free_go : (bytes : List ℕ) (meters : List Reading) → IsFreeStep (step_go bytes meters)
unfolding step_go
free_go bytes meters =
    let function = function_of (blocks_of bytes) in
    let gone : Step = done (running (at_start bytes function meters)) (ready_line function ∷ []) in
    free_unless_faulty (first_fault bytes) (if_sound (first_fault_of (blocks_of bytes)) gone)
    (free_unless_unsound (first_fault_of (blocks_of bytes)) gone (free_done (running (at_start bytes function meters)) (ready_line function ∷ [])))

free_describing : (bytes : List ℕ) (meters : List Reading) (phrase : Phrase) → IsFreeStep (step_describing bytes meters phrase)
free_describing bytes meters nothing_line = λ e. cc
free_describing bytes meters (bytes_line more) = free_feed (bytes ++ more) meters
free_describing bytes meters go_line = free_go bytes meters
free_describing bytes meters (control_line setup sent) = λ e. cc
free_describing bytes meters (get_line name) = λ e. cc
free_describing bytes meters (set_line name value) = λ e. cc
free_describing bytes meters (show_line name) = λ e. cc
free_describing bytes meters (break_line after) = λ e. cc
free_describing bytes meters (append_line number samples) = λ e. cc
free_describing bytes meters (track_line number tone) = λ e. cc
free_describing bytes meters (jack_line terminal tone) = λ e. cc
free_describing bytes meters (deviate_line domain ppm) = λ e. cc
free_describing bytes meters (microframes_line count marks) = λ e. cc
free_describing bytes meters (detail_line level) = λ e. cc
free_describing bytes meters report_line = λ e. cc

-- a step in a world, unless the condition breaks the rule
free_unless_done : (b : Bool) (rule : ℕ) (next : BusWorld) → IsFreeStep (unless b rule (silently next))
free_unless_done b rule next = free_unless b rule (silently next) (free_done next [])

free_running : (r : RunningWorld) (phrase : Phrase) → IsFreeStep (step_running r phrase)
free_running r nothing_line = λ e. cc
free_running r (bytes_line more) = λ e. cc
free_running r go_line = λ e. cc
free_running r (control_line setup sent) = free_telling (transfer (setup_of setup) sent r)
free_running r (get_line name) =
    free_on_element (element_named r name) (λ x. step_telling (read_element x r)) (λ x. free_telling (read_element x r))
free_running r (set_line name value) =
    free_on_element (element_named r name) (λ x. unless (fits_element x.kind value) 7 (step_telling (set_element x value r)))
    (λ x. free_unless (fits_element x.kind value) 7 (step_telling (set_element x value r)) (free_telling (set_element x value r)))
free_running r (show_line name) =
    free_on_element (element_named r name) (λ x. step_telling (show_element x r)) (λ x. free_telling (show_element x r))
free_running r (break_line after) = λ e. cc
free_running r (append_line number samples) =
    let next : BusWorld = running (with_samples_on (natural_of_int number) samples r) in
    free_unless (has_out r.device.function (natural_of_int number)) 6
    (unless (are_frames r.device.function (natural_of_int number) (length samples)) 7 (silently next))
    (free_unless_done (are_frames r.device.function (natural_of_int number) (length samples)) 7 next)
free_running r (track_line number tone) =
    free_unless_done (has_out r.device.function (natural_of_int number)) 6 (running (with_track (natural_of_int number) (tone_of tone) r))
free_running r (jack_line terminal tone) =
    free_unless_done (has_jack r (natural_of_int terminal)) 6 (running (with_jack_tone (natural_of_int terminal) (tone_of tone) r))
free_running r (deviate_line domain ppm) =
    free_unless_done (has_domain r (natural_of_int domain)) 6 (running (with_deviation (natural_of_int domain) ppm r))
free_running r (microframes_line count marks) =
    free_unless (list_all (names_stream r.device.function) marks) 6 (step_telling (microframes marks (natural_of_int count) r))
    (free_telling (microframes marks (natural_of_int count) r))
free_running r (detail_line level) = λ e. cc
free_running r report_line = λ e. cc

free_said : (said : Result Phrase ℕ) (w : BusWorld) → IsFreeStep (said_step said w)
unfolding step
free_said (Ok phrase) (describing bytes meters) = free_describing bytes meters phrase
free_said (Ok phrase) (running r) = free_running r phrase
free_said (Err rule) w = λ e. cc

pub free_by : (says : Sayings) → IsFree (bus_machine says)
free_by says text w = free_said (says text) w

pub bus_free : IsFree (bus_machine answer)
bus_free = free_by answer

-- ---- a line without words does nothing

said_idle : (text : List ℕ) → is_idle text ≡ true → answer text ≡ Ok nothing_line
unfolding answer
said_idle text e = rw e refl

nothing_done : (said : Result Phrase ℕ) (w : BusWorld) → said ≡ Ok nothing_line → lifted (said_step said w) ≡ runner.done w []
unfolding step
nothing_done said (describing bytes meters) e = rw e refl
nothing_done said (running r) e = rw e refl

pub bus_idle : (text : List ℕ) (w : BusWorld) → is_idle text ≡ true → (bus_machine answer).step text w ≡ runner.done w []
bus_idle text w e = nothing_done (answer text) w (said_idle text e)
