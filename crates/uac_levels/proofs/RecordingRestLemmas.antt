-- A microframe starts no stream: an interface that runs none from the device runs none after it.
use Rattle.std.proofs.Common.{◌≡◌, ℕ, ℤ, if◌then◌else◌, List, None}
use Rattle.uac_flow.specs.FlowStreams.{InStream, after_putting, after_sending_in, in_after_end}
use Rattle.uac_graph.specs.GraphControls.{controls_in}
use Rattle.uac_graph.specs.Meaning.{meaning}
use Rattle.uac_graph.specs.Needs.{is_end}
use Rattle.uac_device.specs.DeviceWorld.{DeviceWorld, after_advance, entity_in, input_of, is_on, played_to, after_receiving, set_jack, after_end, after_tick}
use Rattle.uac_device.specs.DeviceWorld.{after_sending_in_packet as device_sends}
use Rattle.uac_script.specs.Phrase.{PhraseMark}
use Rattle.uac_streaming.specs.StreamingWorld.{StreamingWorld, in_packets, out_packets, packet_fetched, packet_sent_out, feedback_made}
use Rattle.uac_running.specs.RunningWorld.{RunningWorld, streaming_of, with_streaming}
use Rattle.uac_running.specs.Events.{after_all_jacks, domain_microframe, microframe, tick}
use Rattle.uac_levels.proofs.TellingTurnLemmas.{none_at, none_where}
use Rattle.uac_levels.proofs.RunningWorldKeptLemmas.{IsKeptByEach, advanced_keeps, before_ticks_keep, domain_keeps, given_keeps, microframe_keeps, tick_keeps}

-- what a tick of a domain has its terminals play, and what each stream from them has of it
abbrev pub playing : ℕ → DeviceWorld → ℕ → List ℤ
playing c w id = if is_end c (entity_in w id) then meaning w.function.entities (controls_in w.controls) (input_of c w) id else w.played id

abbrev pub putting : ℕ → DeviceWorld → ℕ → InStream → InStream
putting c w interface = after_putting (played_to w (playing c w) interface)

module _ (k : ℕ) where
  -- the interface runs no stream from the device
  abbrev pub SendsNone : StreamingWorld → Type 0
  SendsNone w = w.device.ins k ≡ None

  abbrev pub SendsNoneNow : RunningWorld → Type 0
  SendsNoneNow r = r.device.ins k ≡ None

  starts_none : IsKeptByEach SendsNone
  unfolding packet_sent_out after_receiving packet_fetched device_sends after_end feedback_made set_jack after_tick after_advance
  starts_none = record {
    sends = λ lost n w none. none;
    fetches = λ lost n w none. none_at n k after_sending_in w.device.ins none;
    ends = λ n w none. none_at n k in_after_end w.device.ins none;
    reports = λ lost value n w none. none;
    jacks = λ terminal frame w none. none;
    ticks = λ c met w none. none_where (is_on w.device c) (putting c w.device) w.device.ins k none;
    goes_on = λ c w none. none;
  }

  -- ---- the parts of a microframe

  pub given_sends_none : (c : ℕ) (r : RunningWorld) → SendsNoneNow r → (after_all_jacks c r).ins k ≡ None
  given_sends_none = given_keeps SendsNone starts_none

  pub tick_sends_none : (c : ℕ) (r : RunningWorld) → SendsNoneNow r → SendsNoneNow (tick c r).world
  tick_sends_none = tick_keeps SendsNone starts_none

  pub advanced_sends_none : (c : ℕ) (r : RunningWorld) → SendsNoneNow r → SendsNoneNow (record r { device = after_advance c r.device })
  advanced_sends_none = advanced_keeps SendsNone starts_none

  pub domain_sends_none : (c : ℕ) (r : RunningWorld) → SendsNoneNow r → SendsNoneNow (domain_microframe c r).world
  domain_sends_none = domain_keeps SendsNone starts_none

  pub before_ticks_sends_none : (marks : List PhraseMark) (r : RunningWorld) → SendsNoneNow r
      → (let sent = with_streaming r (out_packets r.detail marks (streaming_of r)).world in
      SendsNoneNow (with_streaming sent (in_packets sent.detail marks (streaming_of sent)).world))
  before_ticks_sends_none = before_ticks_keep SendsNone starts_none

  pub microframe_sends_none : (marks : List PhraseMark) (r : RunningWorld) → SendsNoneNow r → SendsNoneNow (microframe marks r).world
  microframe_sends_none = microframe_keeps SendsNone starts_none
