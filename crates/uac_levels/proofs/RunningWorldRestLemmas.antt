-- A microframe starts no stream: an interface that runs none to the device runs none after it.
use Rattle.std.proofs.Common.{◌≡◌, ℕ, List, None}
use Rattle.uac_flow.specs.FlowStreams.{after_packet, after_taking, after_ticks, out_after_end}
use Rattle.uac_device.specs.DeviceWorld.{after_advance, is_on, next_ticks, after_receiving, set_jack, after_end, after_tick}
use Rattle.uac_device.specs.DeviceWorld.{after_sending_in_packet as device_sends}
use Rattle.uac_script.specs.Phrase.{PhraseMark}
use Rattle.uac_streaming.specs.StreamingWorld.{StreamingWorld, in_packets, out_packets, packet_fetched, packet_sent_out, packet_to, feedback_made, end_turn}
use Rattle.uac_running.specs.RunningWorld.{RunningWorld, streaming_of, with_streaming}
use Rattle.uac_running.specs.Events.{after_all_jacks, domain_microframe, microframe, packets_and_ticks, tick}
use Rattle.uac_levels.proofs.TellingTurnLemmas.{none_at, none_where}
use Rattle.uac_levels.proofs.RunningWorldKeptLemmas.{IsKeptByEach, advanced_keeps, before_the_end_keep, before_ticks_keep, domain_keeps, given_keeps, microframe_keeps, tick_keeps}

module _ (k : ℕ) where
  -- the interface runs no stream to the device
  abbrev pub RunsNone : StreamingWorld → Type 0
  RunsNone w = w.device.outs k ≡ None

  abbrev pub RestsNow : RunningWorld → Type 0
  RestsNow r = r.device.outs k ≡ None

  starts_none : IsKeptByEach RunsNone
  unfolding packet_sent_out after_receiving packet_fetched device_sends after_end feedback_made set_jack after_tick after_advance
  starts_none = record {
    sends = λ lost n w none. none_at n k (after_packet (packet_to lost n w)) w.device.outs none;
    fetches = λ lost n w none. none;
    ends = λ n w none. none_at n k out_after_end w.device.outs none;
    reports = λ lost value n w none. none;
    jacks = λ terminal frame w none. none;
    ticks = λ c met w none. none_where (is_on w.device c) (λ interface. after_taking) w.device.outs k none;
    goes_on = λ c w none. none_where (is_on w.device c) (λ interface. after_ticks (next_ticks c w.device)) w.device.outs k none;
  }

  -- ---- the parts of a microframe

  pub ended_none : (detail n : ℕ) (w : StreamingWorld) → RunsNone w → RunsNone (end_turn detail n w).world
  unfolding end_turn
  ended_none detail n w none = starts_none.ends n w none

  pub given_none : (c : ℕ) (r : RunningWorld) → RestsNow r → (after_all_jacks c r).outs k ≡ None
  given_none = given_keeps RunsNone starts_none

  pub tick_none : (c : ℕ) (r : RunningWorld) → RestsNow r → RestsNow (tick c r).world
  tick_none = tick_keeps RunsNone starts_none

  pub advanced_none : (c : ℕ) (r : RunningWorld) → RestsNow r → RestsNow (record r { device = after_advance c r.device })
  advanced_none = advanced_keeps RunsNone starts_none

  pub domain_none : (c : ℕ) (r : RunningWorld) → RestsNow r → RestsNow (domain_microframe c r).world
  domain_none = domain_keeps RunsNone starts_none

  pub before_ticks_none : (marks : List PhraseMark) (r : RunningWorld) → RestsNow r
      → (let sent = with_streaming r (out_packets r.detail marks (streaming_of r)).world in
      RestsNow (with_streaming sent (in_packets sent.detail marks (streaming_of sent)).world))
  before_ticks_none = before_ticks_keep RunsNone starts_none

  pub before_the_end_none : (marks : List PhraseMark) (r : RunningWorld) → RestsNow r → RestsNow (packets_and_ticks marks r).world
  before_the_end_none = before_the_end_keep RunsNone starts_none

  pub microframe_none : (marks : List PhraseMark) (r : RunningWorld) → RestsNow r → RestsNow (microframe marks r).world
  microframe_none = microframe_keeps RunsNone starts_none
