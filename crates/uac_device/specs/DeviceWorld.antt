-- The device's part of the world: what it keeps, with the whole past of its clocks, and what each event does to it.
-- Profile: the events and their order; the terms are those of Audio Class 2.0, 3.13.
use Rattle.std.specs.Prelude.{ℕ, ◌==◌, ◌&&◌, not, Bool, false, if◌then◌else◌, ℤ, pos, List, [], ◌∷◌, ◌++◌, map, filter}
use Rattle.std.specs.Prelude.{length, Option, Some, None, IfSome, unwrap_or}
use Rattle.std.specs.List.{fold, find, list_any}
use Rattle.std.specs.Option.{option_and_then, option_map_or}
use Rattle.uac_clock.specs.Nominal.{nominal_of, step_of}
use Rattle.uac_clock.specs.Ticks.{ticks_in}
use Rattle.uac_entities.specs.declared.entity.Entity.{Entity}
use Rattle.uac_descriptor.specs.Standard.{USB_STREAMING}
use Rattle.uac_topology_rules.specs.Clusters.{is_input}
use Rattle.uac_topology_rules.specs.Rules.{is_output}
use Rattle.uac_topology.specs.Function.{FunctionFields, interface_in}
use Rattle.uac_store.specs.declared.keys.Key.{Key}
use Rattle.uac_store.specs.StoreControls.{initial_controls}
use Rattle.uac_store.specs.Rates.{rate_of}
use Rattle.uac_graph.specs.GraphControls.{controls_in}
use Rattle.uac_graph.specs.Meaning.{entity, meaning}
use Rattle.uac_graph.specs.Needs.{is_end, needed_units}
use Rattle.uac_graph.specs.Wiring.{silence}
use Rattle.uac_units.specs.Hearing.{Reading, after_hearing}
use Rattle.uac_alt.specs.declared.settings.InterfaceSetting.{InterfaceSetting}
use Rattle.uac_alt.specs.AltSettings.{initial_settings}
use Rattle.uac_alt.specs.AltStreams.{StreamFields, stream_of}
use Rattle.uac_request.specs.Requests.{AnswerFields, after_request, request_state, is_done_answer, rate_at, reply_of, sets_interface}
use Rattle.uac_request.specs.declared.setup.Setup.{Setup}
use Rattle.uac_flow.specs.FlowStreams.{InStream, OutStream, after_packet, after_putting, after_sending_in, after_taking, after_ticks}
use Rattle.uac_flow.specs.FlowStreams.{arrival_of}
use Rattle.uac_flow.specs.FlowStreams.{feedback_of, is_dry, is_full, next_taken, sent_in_frames, sent_in_packet, in_after_end, out_after_end}
use Rattle.uac_flow.specs.Flows.{ZerosFit}
use Rattle.uac_ring.specs.declared.arrival.Arrival.{Arrival}
use Rattle.uac_ring.specs.declared.arrival.Arrival.TheVariants as arrival
use Rattle.uac_device.specs.InterfaceStreams.{set_of_streams, streams_changed_at, changed_where, either_due, in_from, level_in, out_from}
use Rattle.uac_device.specs.InterfaceStreams.{streams_replaced_at}
use Rattle.uac_device.specs.InterfaceStreams.{runs_either}
use Rattle.uac_device.specs.declared.ticking.Ticked.{Ticked}

-- a clock domain: the clock that its terminals name, what that is off by in ppm, and its steps since the start, one
-- for each microframe, in 65,536ths of a frame
pub record Domain : Type 0 where
  pub id : ℕ
  pub deviation : ℤ
  pub steps : List ℕ

-- the device
pub record DeviceWorld : Type 0 where
  pub function : FunctionFields
  pub controls : List (Key × ℤ)
  pub settings : List InterfaceSetting
  pub domains : List Domain
  -- by interface, the stream to the device, or from it, that it runs
  pub outs : ℕ → Option OutStream
  pub ins : ℕ → Option InStream
  -- by input terminal, the frame that it last gave, and by output terminal, the frame that it last played
  pub given : ℕ → List ℤ
  pub played : ℕ → List ℤ

-- the entity of the device's function with an id
abbrev pub entity_in : DeviceWorld → ℕ → Entity
entity_in w id = entity w.function.entities id

-- not a terminal that carries a stream of the bus (USB Terminal Types 2.0, 2.1)
abbrev pub is_jack : Entity → Bool
is_jack e = not (e.terminal_type == USB_STREAMING)

abbrev pub is_input_jack : Entity → Bool
is_input_jack e = is_input e.kind && is_jack e

-- an input terminal of a clock domain that carries a stream of the bus
abbrev pub is_streamed : ℕ → Entity → Bool
is_streamed domain e = is_input e.kind && (not (is_jack e) && e.clock == domain)

abbrev pub is_output_jack : Entity → Bool
is_output_jack e = is_output e.kind && is_jack e

-- an output jack of a clock domain
abbrev pub is_output_jack_of : ℕ → Entity → Bool
is_output_jack_of domain e = is_end domain e && is_jack e

-- ---- the start

abbrev pub resting_domain : ℕ → Domain
resting_domain domain = record { id = domain; deviation = pos 0; steps = [] }

-- just after the descriptor was accepted: each control at its start value, each interface in setting 0, no clock off, no stream,
-- and silence everywhere
unfoldable pub fresh : FunctionFields → DeviceWorld
fresh function =
    record {
      function = function;
      controls = initial_controls function.entities;
      settings = initial_settings function;
      domains = map resting_domain function.domains;
      outs = λ interface. None;
      ins = λ interface. None;
      given = λ id. silence (entity function.entities id).cluster.channels;
      played = λ id. silence (entity function.entities id).cluster.channels;
    }

-- ---- streams

-- the stream to the device of the interface that links to a terminal (Audio Class 2.0, 4.9.2)
abbrev pub stream_to : DeviceWorld → ℕ → Option OutStream
stream_to w id = option_and_then (λ s. w.outs s.number) (find (λ s. s.terminal == id) w.function.streams)

-- the terminal to which the interface with a number links is of a clock domain
abbrev pub is_on : DeviceWorld → ℕ → ℕ → Bool
is_on w domain interface =
    option_map_or (λ s. (entity_in w s.terminal).clock == domain) (interface_in w.function interface) false

-- how many frames lie in the ring of an interface's stream; none where none runs
unfoldable pub level_of : DeviceWorld → ℕ → ℕ
level_of w interface = level_in (w.outs interface) (w.ins interface)

-- the level at which an interface's stream to the device was primed; none where none runs, or while it is priming
unfoldable pub target_of : DeviceWorld → ℕ → Option ℕ
target_of w interface = option_and_then (λ o. o.target) (w.outs interface)

-- the streaming interfaces, in block order, whose primed ring is found empty, or whose ring is found full, in the next tick of a domain
unfoldable pub met_of : ℕ → DeviceWorld → Ticked
met_of domain w =
    record {
      under = set_of_streams (map (λ s. is_on w domain s.number && option_map_or is_dry (w.outs s.number) false) w.function.streams);
      over = set_of_streams (map (λ s. is_on w domain s.number && option_map_or is_full (w.ins s.number) false) w.function.streams);
    }

-- ---- clocks

-- what a domain's clock gives in a microframe, by the rate that it has now; without a rate it gives nothing
unfoldable pub step_in : DeviceWorld → Domain → ℕ
step_in w d =
    option_map_or (λ values. step_of values d.deviation)
    (option_and_then nominal_of (rate_of w.function.entities w.controls d.id)) 0

-- one domain changes
abbrev pub with_domain : ℕ → (Domain → Domain) → DeviceWorld → DeviceWorld
with_domain domain change w = record w { domains = map (λ d. if d.id == domain then change d else d) w.domains }

-- a domain's clock is off by so many ppm from now on
unfoldable pub after_deviation : ℕ → ℤ → DeviceWorld → DeviceWorld
after_deviation domain ppm w = with_domain domain (λ d. record d { deviation = ppm }) w

-- the steps of a domain with that of the microframe that comes
abbrev pub steps_with_next : DeviceWorld → Domain → List ℕ
steps_with_next w d = d.steps ++ step_in w d ∷ []

-- how often a domain ticks in the microframe that comes; an id that is no domain's never ticks
unfoldable pub next_ticks : ℕ → DeviceWorld → ℕ
next_ticks domain w = option_map_or (λ d. ticks_in (steps_with_next w d)) (find (λ d. d.id == domain) w.domains) 0

-- a domain's clock goes on by one microframe; the streams to its terminals count its ticks
unfoldable pub after_advance : ℕ → DeviceWorld → DeviceWorld
after_advance domain w =
    record (with_domain domain (λ d. record d { steps = steps_with_next w d }) w) {
      outs = changed_where (is_on w domain) (λ interface. after_ticks (next_ticks domain w)) w.outs;
    }

-- ---- signals

-- a jack is given a frame
unfoldable pub set_jack : ℕ → List ℤ → DeviceWorld → DeviceWorld
set_jack terminal frame w = record w { given = λ id. if id == terminal then frame else w.given id }

-- what a terminal of the bus gives: its stream's next frame, or silence where it has none
unfoldable pub streamed_frame : DeviceWorld → ℕ → List ℤ
streamed_frame w id = unwrap_or (option_and_then next_taken (stream_to w id)) (silence (entity_in w id).cluster.channels)

-- what an input terminal gives at a tick of a domain: a terminal of the bus in that domain what its stream gives, and any other what it
-- gave last, or was given since
unfoldable pub input_of : ℕ → DeviceWorld → ℕ → List ℤ
input_of domain w id = if is_streamed domain (entity_in w id) then streamed_frame w id else w.given id

-- the frame that the terminal to which an interface links last played
abbrev pub played_to : DeviceWorld → (ℕ → List ℤ) → ℕ → List ℤ
played_to w played interface = option_map_or (λ s. played s.terminal) (interface_in w.function interface) []

-- one tick of a domain: each of its output terminals plays the samples of its wire, under the controls held now; the streams to
-- its terminals gave their frames, and those from its terminals have what these played
unfoldable pub after_tick : ℕ → DeviceWorld → DeviceWorld
after_tick domain w =
    let played : ℕ → List ℤ =
    λ id. if is_end domain (entity_in w id) then meaning w.function.entities (controls_in w.controls) (input_of domain w) id
    else w.played id in
    record w {
      outs = changed_where (is_on w domain) (λ interface. after_taking) w.outs;
      ins = changed_where (is_on w domain) (λ interface. after_putting (played_to w played interface)) w.ins;
      given = input_of domain w;
      played = played;
    }

-- how many renders a tick of a domain counts: one for each unit that the domain needs
unfoldable pub renders_of : ℕ → DeviceWorld → ℕ
renders_of domain w = length (needed_units w.function.entities domain)

-- the frames that the meters hear after a tick of a domain: those of its output jacks, in block order
unfoldable pub heard_of : ℕ → DeviceWorld → List (List ℤ)
heard_of domain w = map (λ e. w.played e.id) (filter (is_output_jack_of domain) w.function.entities)

-- what meters show after they heard these frames, one after the other
unfoldable pub after_frames : List (List ℤ) → List Reading → List Reading
after_frames frames readings = fold (λ shown frame. map (after_hearing frame) shown) readings frames

-- the frame that an output jack last played; another id has none
unfoldable pub played_at : DeviceWorld → ℕ → Option (List ℤ)
played_at w id = if is_output_jack (entity_in w id) then Some (w.played id) else None

-- ---- packets and the ends of microframes

-- the stream to the device, or from it, of an interface changes
abbrev pub at_out : ℕ → (OutStream → OutStream) → DeviceWorld → DeviceWorld
at_out interface change w = record w { outs = streams_changed_at interface change w.outs }

abbrev pub at_in : ℕ → (InStream → InStream) → DeviceWorld → DeviceWorld
at_in interface change w = record w { ins = streams_changed_at interface change w.ins }

-- a packet comes to the device, or is lost
unfoldable pub after_receiving : ℕ → Option (List ℕ) → DeviceWorld → DeviceWorld
after_receiving interface packet w = at_out interface (after_packet packet) w

-- what becomes of that packet; where the interface runs no stream to the device, nothing takes it
unfoldable pub arrival_in : DeviceWorld → ℕ → Option (List ℕ) → Arrival
arrival_in w interface packet = option_map_or (arrival_of packet) (w.outs interface) arrival.Lost

-- the device sends a packet
unfoldable pub after_sending_in_packet : ℕ → DeviceWorld → DeviceWorld
after_sending_in_packet interface w = at_in interface after_sending_in w

-- that packet, and the number of its frames; where the interface runs no stream from the device, it is empty
unfoldable pub packet_in : DeviceWorld → ℕ → List ℕ
packet_in w interface = option_map_or sent_in_packet (w.ins interface) []

unfoldable pub frames_in : DeviceWorld → ℕ → ℕ
frames_in w interface = option_map_or sent_in_frames (w.ins interface) 0

-- a microframe ends for an interface's stream
unfoldable pub after_end : ℕ → DeviceWorld → DeviceWorld
after_end interface w = at_in interface in_after_end (at_out interface out_after_end w)

-- an interface runs a stream that has a packet in the next microframe
unfoldable pub is_due_in : DeviceWorld → ℕ → Bool
is_due_in w interface = either_due (w.outs interface) (w.ins interface)

-- where a packet of an interface was lost, the ring of its stream to the device has room for the zeros that are due
unfoldable pub ZerosFitIn : DeviceWorld → ℕ → Type 0
ZerosFitIn w interface = IfSome (w.outs interface) ZerosFit

-- an interface runs a stream, to the device or from it
unfoldable pub runs_one : DeviceWorld → Bool
runs_one w = list_any (λ s. runs_either (w.outs s.number) (w.ins s.number)) w.function.streams

-- the report that is due of an interface's stream to the device
unfoldable pub feedback_in : DeviceWorld → ℕ → Option ℕ
feedback_in w interface = option_and_then feedback_of (w.outs interface)

-- ---- requests

-- the stream of an interface in a setting, at the rate of its terminal's clock
unfoldable pub stream_in_setting : FunctionFields → List (Key × ℤ) → ℕ → ℕ → Option StreamFields
stream_in_setting function controls interface setting =
    option_and_then (λ s. option_and_then (λ rate. stream_of function rate interface setting) (rate_at function controls s))
    (interface_in function interface)

-- what a request begins: an interface, whose stream starts anew, or stops where none is given
pub record BegunFields : Type 0 where
  pub interface : ℕ
  pub stream : Option StreamFields

-- a setting that is set begins its interface; what a request is told otherwise begins nothing
unfoldable pub begun_by : FunctionFields → List (Key × ℤ) → Setup → AnswerFields → Option BegunFields
begun_by function controls p told =
    if sets_interface p && is_done_answer told
    then Some (record { interface = p.index; stream = stream_in_setting function controls p.index p.value })
    else None

-- an interface's stream starts anew, or stops where none is given
unfoldable pub after_restart : ℕ → Option StreamFields → DeviceWorld → DeviceWorld
after_restart interface begun w =
    record w {
      outs = streams_replaced_at interface (option_and_then out_from begun) w.outs;
      ins = streams_replaced_at interface (option_and_then in_from begun) w.ins;
    }

-- a control request: it changes what its answer says, and a setting that it sets starts the interface's stream anew, or stops it
unfoldable pub after_control : Setup → List ℕ → DeviceWorld → DeviceWorld
after_control p bytes w =
    let held = request_state w.controls w.settings in
    let after = after_request w.function held p bytes in
    let asked = record w { controls = after.controls; settings = after.settings } in
    if sets_interface p && is_done_answer (reply_of w.function held p bytes)
    then after_restart p.index (stream_in_setting w.function w.controls p.index p.value) asked
    else asked
