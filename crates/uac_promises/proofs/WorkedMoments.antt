-- Worked values: the moments of a microframe of six ticks, and what fronts of lines tell.
use Rattle.std.proofs.Common.{◌≡◌, refl, ℕ, eqb, if◌then◌else◌, true, pos, List, [], ◌∷◌, map, length, take, None, Some, Result, Ok}
use Rattle.uac_descriptor.specs.Standard.{USB_STREAMING}
use Rattle.uac_entities.specs.declared.entity.Entity.{Entity}
use Rattle.uac_entities.specs.declared.entity.EntityKind.{EntityKind}
use Rattle.uac_entities.specs.declared.entity.EntityKind.TheVariants as kind
use Rattle.uac_entities.specs.EntityInterfaces.{entity_by_id}
use Rattle.uac_topology_rules.specs.Table.{at, index_of}
use Rattle.uac_topology.specs.Function.{FunctionFields}
use Rattle.uac_clock.specs.Nominal.{nominal_of, values_of}
use Rattle.uac_store.specs.Keyed.{value_of}
use Rattle.uac_store.specs.Rates.{rate_of, rate_step, rate_within, source_rate}
use Rattle.uac_graph.specs.Meaning.{entity}
use Rattle.uac_alt.specs.AltStreams.{StreamFields}
use Rattle.uac_flow.specs.FlowStreams.{after_packet, after_taking, started_out}
use Rattle.uac_host.specs.HostWorld.{fresh_host}
use Rattle.uac_host.specs.HostCalls.{after_host_packet, size_of}
use Rattle.uac_device.specs.DeviceWorld.{DeviceWorld, after_advance, after_receiving, after_end, after_tick, fresh, is_due_in, next_ticks, set_jack, step_in}
use Rattle.uac_script.specs.Phrase.{PhraseMark, Phrase, microframes_line}
use Rattle.uac_script.specs.declared.line.MarkKind.TheVariants as marks
use Rattle.uac_transcript.specs.Transcript.{Said, says_microframe}
use Rattle.uac_streaming.specs.StreamingWorld.{all_feedback, all_ends, in_packet_turn, in_packets, numbers, out_packets, out_turn, packet_sent_out, end_turn}
use Rattle.uac_streaming.specs.Telling.{in_turn}
use Rattle.uac_running.specs.RunningWorld.{RunningWorld, at_start}
use Rattle.uac_running.specs.Events.{after_all_jacks, domain_microframe, domain_microframes, ends_and_feedback, microframe, microframes, packets_and_ticks, tick, tick_times}
use Rattle.uac_rows.specs.BusWorld.{running, step}
use Rattle.uac_levels.specs.Past.{no_pasts}
use Rattle.uac_promises.specs.Moments.{along, domain_moments, end_moments, in_moments, moments, out_moments, tick_moments}
use Rattle.uac_promises.specs.Watches.{line_watches, microframe_watches, watches_after}

-- ---- a microframe of six ticks

-- mono at 48,000 Hz, a packet in each microframe
mono : StreamFields
mono =
    record { channels = 1; subslot = 2; bits = 16; nominal = record { f = 393216; e = 393; lo = 5; hi = 7 }; out = true; most = 7; period = 1; service = 1 }

abbrev with : ℕ → EntityKind → ℕ → List ℕ → ℕ → Entity
with id k type sources channels =
    record {
      id = id;
      kind = k;
      terminal_type = type;
      sources = sources;
      clock = 1;
      cluster = record { channels = channels; locations = 0; names = 0 };
      controls = [];
      mix_bits = [];
      attributes = 0;
    }

-- jack 4 plays the stream of interface 1, which comes to terminal 2, by clock 1
function : FunctionFields
function =
    record {
      entities =
          with 1 kind.ClockSource 0 [] 0
          ∷ with 2 kind.InputTerminal USB_STREAMING [] 1
          ∷ with 4 kind.OutputTerminal 769 (2 ∷ []) 1
          ∷ [];
      domains = 1 ∷ [];
      streams = record { number = 1; terminal = 2; out = true; settings = [] } ∷ [];
      control_interface = 0;
      total = 0;
    }

device : DeviceWorld
device =
    record {
      function = function;
      controls = (record { entity = 1; selector = 1; channel = 0 }, pos 48000) ∷ [];
      settings = [];
      domains = record { id = 1; deviation = pos 0; steps = [] } ∷ [];
      outs = λ n. if eqb n 1 then Some (started_out mono) else None;
      ins = λ n. None;
      given = λ id. pos 0 ∷ [];
      played = λ id. pos 0 ∷ [];
    }

world : RunningWorld
world =
    record (at_start [] function []) {
      device = device;
      host = record (fresh_host function) { paces = λ n. if eqb n 1 then Some (record { stream = mono; used = []; value = 393216 }) else None };
    }

lost : PhraseMark
lost = record { kind = marks.Out; interface = pos 1 }

-- Six frames are put one by one, so that there are seven moments; then come six ticks, with seven; the end puts no zeros, which is one, and
-- after it is one more. Where the packet is lost, the end puts six zeros, which are seven moments.
sixteen : (length (moments [] world) ≡ 16) × (length (moments (lost ∷ []) world) ≡ 22)
unfolding moments along out_moments in_moments domain_moments tick_moments end_moments world device function mono lost at_start fresh_host numbers out_packets in_packets in_turn out_turn in_packet_turn packet_sent_out after_receiving after_packet after_host_packet is_due_in size_of next_ticks step_in rate_of rate_within rate_step source_rate entity_by_id value_of nominal_of values_of domain_microframe domain_microframes tick tick_times after_all_jacks after_advance after_tick after_taking set_jack end_turn after_end entity at index_of
sixteen = (refl, refl)

-- ---- fronts of lines

-- a device with nothing, of which all is said
alone : RunningWorld
alone = record (at_start [] (record { entities = []; domains = []; streams = []; control_interface = 0; total = 0 }) []) { detail = 2 }

one : Result Phrase ℕ
one = Ok (microframes_line (pos 1) [])

script : List (Result Phrase ℕ)
script = one ∷ one ∷ one ∷ one ∷ []

told_by : List (Result Phrase ℕ) → List Said
told_by saids = map (λ watch. watch.said) (watches_after saids (running alone) no_pasts).lines

-- each line asks for a microframe, whose number is said: a front of three lines tells three, and no line after them
three : (told_by (take 3 script) ≡ says_microframe 1 ∷ says_microframe 2 ∷ says_microframe 3 ∷ []) × (length (told_by script) ≡ 4) × (told_by (take 0 script) ≡ [])
unfolding told_by script one alone at_start fresh fresh_host watches_after line_watches microframe_watches step microframes microframe packets_and_ticks ends_and_feedback out_packets in_packets all_ends all_feedback in_turn numbers domain_microframes
three = (refl, refl, refl)
