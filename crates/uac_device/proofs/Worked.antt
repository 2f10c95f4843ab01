-- Worked values of the streams' definitions: a stream to a jack, and one from a jack.
use Rattle.std.proofs.Common.{◌≡◌, ℕ, eqb, if◌then◌else◌, pos, negsuc, List, [], ◌∷◌, ◌++◌, Some, None, Bool, true, false, map, refl}
use Rattle.std.specs.List.{range_with_len}
use Rattle.uac_entities.specs.declared.entity.Entity.{Entity}
use Rattle.uac_entities.specs.declared.entity.EntityKind.{EntityKind}
use Rattle.uac_entities.specs.declared.entity.EntityKind.TheVariants as kind
use Rattle.uac_descriptor.specs.Standard.{USB_STREAMING}
use Rattle.uac_entities.specs.declared.stream.StreamInterface.{StreamInterface}
use Rattle.uac_topology_rules.specs.Links.{signal_sources}
use Rattle.uac_topology_rules.specs.Table.{at, index_of}
use Rattle.uac_topology.specs.Function.{FunctionFields}
use Rattle.uac_clock.specs.Nominal.{nominal_of, values_of}
use Rattle.uac_entities.specs.EntityInterfaces.{entity_by_id}
use Rattle.uac_store.specs.Keyed.{value_of}
use Rattle.uac_store.specs.Rates.{rate_of, rate_step, rate_within, source_rate}
use Rattle.uac_graph.specs.Meaning.{entity, frame_of, meaning, samples, samples_by}
use Rattle.std.specs.Int.{int_wrap}
use Rattle.uac_pcm.specs.Subslots.{cut_to, sample_of_subslot, subslot_of}
use Rattle.uac_alt.specs.AltStreams.{StreamFields}
use Rattle.uac_flow.specs.FlowStreams.{InStream, OutStream, after_packet, after_putting, after_sending_in, after_taking, arrival_of, feedback_of, is_due, sent_in_packet, in_after_end, out_after_end, started_out}
use Rattle.uac_device.specs.InterfaceStreams.{set_of_streams}
use Rattle.uac_device.specs.DeviceWorld.{DeviceWorld, after_advance, feedback_in, input_of, is_due_in, level_of, met_of, next_ticks, after_receiving, after_restart, after_sending_in_packet, after_end, step_in, streamed_frame, target_of, after_tick}
use Rattle.uac_ring.specs.declared.arrival.Arrival.TheVariants as arrival

abbrev with : ℕ → EntityKind → ℕ → List ℕ → ℕ → Entity
with id k type sources channels =
    record { id = id; kind = k; terminal_type = type; sources = sources; clock = 1; cluster = record { channels = channels; locations = 0; names = 0 }; controls = []; mix_bits = []; attributes = 0 }

-- terminal 4 plays the stream that comes to terminal 2, and terminal 7 sends what jack 5 gives
entities : List Entity
entities =
    with 1 kind.ClockSource 0 [] 0
    ∷ with 2 kind.InputTerminal USB_STREAMING [] 1
    ∷ with 4 kind.OutputTerminal 769 (2 ∷ []) 1
    ∷ with 5 kind.InputTerminal 513 [] 1
    ∷ with 7 kind.OutputTerminal USB_STREAMING (5 ∷ []) 1
    ∷ []

linked : ℕ → ℕ → Bool → StreamInterface
linked number terminal out = record { number = number; terminal = terminal; out = out; settings = [] }

function : FunctionFields
function =
    record { entities = entities; domains = 1 ∷ []; streams = linked 1 2 true ∷ linked 2 7 false ∷ []; control_interface = 0; total = 0 }

-- the world with these streams, whose jack is given 7
world : OutStream → InStream → DeviceWorld
world out in_ =
    record {
      function = function;
      controls = [];
      settings = [];
      domains = [];
      outs = λ n. if eqb n 1 then Some out else None;
      ins = λ n. if eqb n 2 then Some in_ else None;
      given = λ id. pos 7 ∷ [];
      played = λ id. pos 0 ∷ [];
    }

-- mono at 48,000 Hz, in samples of two bytes: at most 12 frames in a packet, a packet and a report every second microframe
mono : Bool → StreamFields
mono out =
    record { channels = 1; subslot = 2; bits = 16; nominal = record { f = 393216; e = 393; lo = 5; hi = 7 }; out = out; most = 12; period = 2; service = 2 }

-- of the two frames that arrived one was played
half : OutStream
half = record { stream = mono true; microframes = 3; arrived = (pos 5 ∷ []) ∷ (pos 6 ∷ []) ∷ []; taken = 1; target = Some 2; lost = false; ticks = 0 }

-- two frames arrived, and it isn't primed yet
priming : OutStream
priming = record { stream = mono true; microframes = 1; arrived = (pos 5 ∷ []) ∷ (pos 6 ∷ []) ∷ []; taken = 0; target = None; lost = false; ticks = 0 }

one_put : InStream
one_put = record { stream = mono false; microframes = 1; made = (pos 9 ∷ []) ∷ []; gone = 0 }

full : InStream
full = record { stream = mono false; microframes = 1; made = map (λ n. pos n ∷ []) (range_with_len 0 2049); gone = 1 }

-- the same with its clock at 48,000 Hz
clocked : DeviceWorld
clocked = record (world half one_put) { controls = (record { entity = 1; selector = 1; channel = 0 }, pos 48000) ∷ []; domains = record { id = 1; deviation = pos 0; steps = [] } ∷ [] }

levels : (level_of (world half one_put) 1 ≡ 1) × (level_of (world half one_put) 2 ≡ 1) × (level_of (world half one_put) 3 ≡ 0)
unfolding level_of world half one_put
levels = (refl, refl, refl)

targets : (target_of (world half one_put) 1 ≡ Some 2) × (target_of (world priming one_put) 1 ≡ None) × (target_of (world half one_put) 2 ≡ None)
unfolding target_of world half priming
targets = (refl, refl, refl)

-- a primed stream gives its next frame, a priming one silence, and a jack what it was given; at a tick of another domain a terminal of the
-- bus gives what it gave last
gives : (input_of 1 (world half one_put) 2 ≡ pos 6 ∷ []) × (input_of 1 (world priming one_put) 2 ≡ pos 0 ∷ []) × (input_of 1 (world half one_put) 5 ≡ pos 7 ∷ [])
    × (input_of 9 (world half one_put) 2 ≡ pos 7 ∷ [])
unfolding input_of streamed_frame world half priming function entities linked entity at index_of
gives = (refl, refl, refl, refl)

-- a tick of the domain: the jack plays the stream's frame, which the terminal of the bus gave, and the other stream has what its jack gave
plays : ((after_tick 1 (world half one_put)).played 4 ≡ pos 6 ∷ []) × ((after_tick 1 (world half one_put)).ins 2 ≡ Some (record one_put { made = (pos 9 ∷ []) ∷ (pos 7 ∷ []) ∷ [] }))
    × ((after_tick 1 (world half one_put)).given 2 ≡ pos 6 ∷ [])
unfolding after_tick input_of streamed_frame world half one_put function entities linked entity at index_of meaning samples samples_by frame_of signal_sources after_putting
plays = (refl, refl, refl)

-- then its ring is empty: the next tick finds it so and plays silence, and it primes again
plays_silence : (after_tick 1 (after_tick 1 (world half one_put))).played 4 ≡ pos 0 ∷ []
unfolding after_tick input_of streamed_frame world half one_put function entities linked entity at index_of meaning samples samples_by frame_of signal_sources after_taking
plays_silence = refl

-- a terminal whose interface runs no stream gives silence, and meets nothing
at_rest : (input_of 1 (record (world half one_put) { outs = λ n. None }) 2 ≡ pos 0 ∷ []) × (met_of 1 (record (world half one_put) { outs = λ n. None; ins = λ n. None }) ≡ record { under = 0; over = 0 })
unfolding input_of streamed_frame met_of set_of_streams world function entities linked entity at index_of
at_rest = (refl, refl)

-- in a microframe of its domain a stream counts the ticks, here six at 48,000 Hz; in another's it doesn't
counts : ((after_advance 1 clocked).outs 1 ≡ Some (record half { ticks = 6 })) × ((after_advance 9 clocked).outs 1 ≡ Some half)
unfolding after_advance clocked next_ticks step_in rate_of rate_within rate_step source_rate entity_by_id value_of nominal_of values_of world half function entities linked entity at index_of
counts = (refl, refl)

runs_dry : (met_of 1 (after_tick 1 (world half one_put)) ≡ record { under = 1; over = 0 }) × ((after_tick 1 (after_tick 1 (world half one_put))).outs 1
    ≡ Some (record half { arrived = []; taken = 0; target = None }))
unfolding met_of set_of_streams after_tick world half one_put function entities linked entity at index_of after_taking after_putting
runs_dry = (refl, refl)

-- before that it meets nothing, and a priming stream never does
met_none : (met_of 1 (world half one_put) ≡ record { under = 0; over = 0 }) × (met_of 1 (world (record priming { arrived = [] }) one_put) ≡ record { under = 0; over = 0 })
unfolding met_of set_of_streams world half priming one_put function entities linked entity at index_of
met_none = (refl, refl)

-- the second interface's ring is full: nothing is put
met_full : (met_of 1 (world half full) ≡ record { under = 0; over = 2 }) × ((after_tick 1 (world half full)).ins 2 ≡ Some full)
unfolding met_of set_of_streams after_tick world half full function entities linked entity at index_of after_putting
met_full = (refl, refl)

-- a tick of another domain leaves both
elsewhere : (met_of 9 (world half full) ≡ record { under = 0; over = 0 }) × ((after_tick 9 (world half full)).outs 1 ≡ Some half) × ((after_tick 9 (world half full)).ins 2 ≡ Some full)
unfolding met_of set_of_streams after_tick world half full function entities linked entity at index_of
elsewhere = (refl, refl, refl)

-- the samples 1 and -2
packet : List ℕ
packet = 1 ∷ 0 ∷ 254 ∷ 255 ∷ []

-- a packet that comes, one that is lost, and one for which the ring has no room
arrives : (arrival_of (Some packet) half ≡ arrival.Taken) × (after_packet (Some packet) half ≡ record half { arrived = half.arrived ++ (pos 65536 ∷ []) ∷ (negsuc 131071 ∷ []) ∷ [] })
unfolding arrival_of after_packet half mono packet cut_to sample_of_subslot int_wrap
arrives = (refl, refl)

is_lost : (arrival_of None half ≡ arrival.Lost) × (after_packet None half ≡ record half { lost = true })
unfolding arrival_of after_packet
is_lost = (refl, refl)

crowded : OutStream
crowded = record half { arrived = map (λ n. pos n ∷ []) (range_with_len 0 2048); lost = true }

is_over : (arrival_of (Some packet) crowded ≡ arrival.Over) × (after_packet (Some packet) crowded ≡ record crowded { lost = false })
unfolding arrival_of after_packet crowded half mono packet
is_over = (refl, refl)

-- a packet from the device has all that lies in the ring, here one frame; of 14 frames it has the oldest 12
sends : (sent_in_packet (record one_put { made = (pos 65536 ∷ []) ∷ [] }) ≡ 1 ∷ 0 ∷ []) × (after_sending_in one_put ≡ record one_put { gone = 1 })
unfolding sent_in_packet after_sending_in one_put mono cut_to subslot_of
sends = (refl, refl)

sends_most : (after_sending_in (record one_put { made = map (λ n. pos n ∷ []) (range_with_len 0 14) })).gone ≡ 12
unfolding after_sending_in one_put mono
sends_most = refl

-- with a service interval of two microframes the second and the fourth are due
due : (is_due (mono true) 0 ≡ false) × (is_due (mono true) 1 ≡ true) × (is_due (mono true) 2 ≡ false) × (is_due (mono true) 3 ≡ true)
unfolding mono
due = (refl, refl, refl, refl)

-- at the end of a microframe that is due a lost packet is replaced by a zero frame for each tick; else only the count rises
replaced : (out_after_end (record half { lost = true; ticks = 2 }) ≡ record half { microframes = 4; arrived = (pos 5 ∷ []) ∷ (pos 6 ∷ []) ∷ (pos 0 ∷ []) ∷ (pos 0 ∷ []) ∷ []; lost = false; ticks = 0 })
    × (out_after_end (record half { microframes = 4; lost = true; ticks = 2 }) ≡ record half { microframes = 5; lost = true; ticks = 2 })
    × (out_after_end (record half { ticks = 2 }) ≡ record half { microframes = 4 })
unfolding out_after_end half mono
replaced = (refl, refl, refl)

-- a stream with a packet in each microframe is primed from 256 frames on, and another from 512 on
holding : ℕ → ℕ → OutStream
holding service level = record (started_out (record (mono true) { service = service })) { microframes = 7; arrived = map (λ n. pos n ∷ []) (range_with_len 0 level) }

primes : ((out_after_end (holding 1 255)).target ≡ None) × ((out_after_end (holding 1 256)).target ≡ Some 256) × ((out_after_end (holding 2 511)).target ≡ None) × ((out_after_end (holding 2 512)).target ≡ Some 512)
unfolding out_after_end holding mono
primes = (refl, refl, refl, refl)

-- no report falls due before the second microframe has ended: 6 frames while the stream is priming, then 1,024 parts more for each frame
-- that is missing
reports : (feedback_of (started_out (mono true)) ≡ None) × (feedback_of half ≡ None) × (feedback_of (record half { microframes = 4 }) ≡ Some 394240) × (feedback_of (record priming { microframes = 2 }) ≡ Some 393216)
unfolding feedback_of half priming mono
reports = (refl, refl, refl, refl)

-- each of these changes its own interface's stream alone
by_interface : ((after_receiving 1 None (world half one_put)).outs 1 ≡ Some (record half { lost = true })) × ((after_receiving 2 None (world half one_put)).outs 1 ≡ Some half)
    × ((after_sending_in_packet 2 (world half one_put)).ins 2 ≡ Some (record one_put { gone = 1 })) × ((after_end 2 (world half one_put)).outs 1 ≡ Some half)
    × ((after_end 2 (world half one_put)).ins 2 ≡ Some (record one_put { microframes = 2 }))
unfolding after_receiving after_sending_in_packet after_end in_after_end after_packet after_sending_in world half one_put mono
by_interface = (refl, refl, refl, refl, refl)

told : (is_due_in (world half one_put) 1 ≡ true) × (is_due_in (world half one_put) 2 ≡ true) × (is_due_in (world half one_put) 3 ≡ false) × (feedback_in (world half one_put) 2 ≡ None)
unfolding is_due_in feedback_in world half one_put mono
told = (refl, refl, refl, refl)

-- a stream starts anew with an empty ring, or stops
anew : ((after_restart 1 (Some (mono true)) (world half one_put)).outs 1 ≡ Some (started_out (mono true))) × ((after_restart 1 None (world half one_put)).outs 1 ≡ None)
    × ((after_restart 1 None (world half one_put)).ins 2 ≡ Some one_put)
unfolding after_restart world half one_put mono
anew = (refl, refl, refl)
