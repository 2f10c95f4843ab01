-- Between the microframes of a running device there is room in its rings, and within one the zeros for lost packets fit.
use Rattle.std.proofs.Common.{ℕ, zero, suc, ◌+◌, ◌==◌, nat_eq, Bool, true, false, if◌then◌else◌, ℤ, List, [], ◌∷◌, Option, Some, None}
use Rattle.std.specs.List.{IsDistinct, filter, fold}
use Rattle.std.proofs.lemmas.Map.Keys.{IsDistinct-tail}
use Rattle.uac_topology.specs.Function.{FunctionFields}
use Rattle.uac_units.specs.Hearing.{at_most_u64}
use Rattle.uac_request.specs.declared.setup.Setup.{Setup}
use Rattle.uac_device.specs.DeviceWorld.{DeviceWorld, ZerosFitIn, after_advance, after_control, next_ticks, set_jack, stream_in_setting}
use Rattle.uac_device.specs.DeviceKept.{IsDeviationInRange}
use Rattle.uac_script.specs.Phrase.{PhraseMark}
use Rattle.uac_mixer.specs.declared.link.When.{When}
use Rattle.uac_mixer.specs.declared.link.When.TheVariants as when
use Rattle.uac_streaming.specs.StreamingWorld.{after_following, in_packets, loses_out, out_packets}
use Rattle.uac_streaming.specs.Room.{HaveRoom}
use Rattle.uac_streaming.proofs.RoomDeviceLemmas.{AreWithin, HaveSmallNumbers, advanced_within, all_fit, all_opened, any_clock, jack_within, ticked_within}
use Rattle.uac_streaming.proofs.RoomStartLemmas.{controlled_room, deviated_room}
use Rattle.uac_streaming.proofs.RoomTurnLemmas.{IsRoomy, all_feedback_keeps, all_ends_room, in_packets_within, out_packets_within}
use Rattle.uac_device.specs.declared.jacks.Jack.{Jack}
use Rattle.uac_running.specs.RunningWorld.{RunningWorld, streaming_of, with_deviation, with_streaming}
use Rattle.uac_running.specs.Events.{after_all_jacks, domain_microframe, domain_microframes, ends_and_feedback, after_jacks, microframe, next_frame, packets_and_ticks, tick, tick_times}
use Rattle.uac_running.specs.RunningTransfers.{acts, holds_setting, after_transfer}

-- ---- ticks

module _ (about : FunctionFields → Type 0) (loses : ℕ → Bool) where
  jacks_within : (ahead : List ℕ) (clock left : ℕ) (jacks : List Jack) (w : DeviceWorld) → AreWithin about loses ahead clock left w
      → AreWithin about loses ahead clock left (fold (λ v j. set_jack j.terminal (next_frame j) v) w jacks)
  jacks_within ahead clock left [] w is = is
  jacks_within ahead clock left (j ∷ js) w is =
      jacks_within ahead clock left js (set_jack j.terminal (next_frame j) w) (jack_within about loses ahead clock left j.terminal (next_frame j) w is)

  tick_within : (ahead : List ℕ) (clock left : ℕ) (r : RunningWorld) → AreWithin about loses ahead clock (suc left) r.device
      → AreWithin about loses ahead clock left (tick clock r).world.device
  unfolding tick after_all_jacks
  tick_within ahead clock left r is =
      ticked_within about loses ahead clock left (after_jacks clock r.jacks r.device)
      (jacks_within ahead clock (suc left) (filter (λ (j : Jack). j.domain == clock) r.jacks) r.device is)

  tick_times_within : (count : ℕ) (ahead : List ℕ) (clock : ℕ) (r : RunningWorld) → AreWithin about loses ahead clock count r.device
      → AreWithin about loses ahead clock 0 (tick_times count clock r).world.device
  unfolding tick_times
  tick_times_within zero ahead clock r is = is
  tick_times_within (suc count) ahead clock r is = tick_times_within count ahead clock (tick clock r).world (tick_within ahead clock count r is)

  domain_within : (clock : ℕ) (ahead : List ℕ) (r : RunningWorld) → IsDistinct nat_eq (clock ∷ ahead)
      → AreWithin about loses (clock ∷ ahead) 0 0 r.device
      → AreWithin about loses ahead 0 0 (domain_microframe clock r).world.device
  unfolding domain_microframe
  domain_within clock ahead r once is =
      any_clock about loses ahead clock 0 (tick_times (next_ticks clock r.device) clock (record r { device = after_advance clock r.device })).world.device
      (tick_times_within (next_ticks clock r.device) ahead clock (record r { device = after_advance clock r.device })
      (advanced_within about loses clock 0 ahead r.device once is))

  domains_within : (clocks : List ℕ) (r : RunningWorld) → IsDistinct nat_eq clocks → AreWithin about loses clocks 0 0 r.device
      → AreWithin about loses [] 0 0 (domain_microframes clocks r).world.device
  unfolding domain_microframes
  domains_within [] r once is = is
  domains_within (clock ∷ clocks) r once is =
      domains_within clocks (domain_microframe clock r).world (IsDistinct-tail nat_eq clock clocks once) (domain_within clock clocks r once is)

-- ---- a microframe

-- before its ends
pub ticks_within : (about : FunctionFields → Type 0) (marks : List PhraseMark) (r : RunningWorld) → about r.device.function → HaveRoom r.device
    → AreWithin about (loses_out marks) [] 0 0 (packets_and_ticks marks r).world.device
unfolding packets_and_ticks
ticks_within about marks r holds room =
    let sent = with_streaming r (out_packets r.detail marks (streaming_of r)).world in
    let fetched = with_streaming sent (in_packets r.detail marks (streaming_of sent)).world in
    let after_packets = in_packets_within about r.detail marks fetched.device.function.domains 0 (streaming_of sent)
    (out_packets_within about r.detail marks fetched.device.function.domains 0 (streaming_of r)
    (all_opened about (loses_out marks) fetched.device.function.domains r.device holds room)) in
    domains_within about (loses_out marks) fetched.device.function.domains fetched after_packets.apart after_packets

-- the zeros fit
pub zeros_fit_in : (marks : List PhraseMark) (r : RunningWorld) → HaveRoom r.device → (interface : ℕ)
    → ZerosFitIn (packets_and_ticks marks r).world.device interface
zeros_fit_in marks r room interface =
    all_fit (λ function. Unit {0}) (loses_out marks) [] 0 (packets_and_ticks marks r).world.device interface (ticks_within (λ function. Unit {0}) marks r tt room)

ends_room : (about : FunctionFields → Type 0) (marks : List PhraseMark) (r : RunningWorld) → HaveSmallNumbers r.device.function
    → AreWithin about (loses_out marks) [] 0 0 r.device → IsRoomy about (ends_and_feedback marks r).world.device
unfolding ends_and_feedback
ends_room about marks r small is =
    all_feedback_keeps (IsRoomy about) r.detail marks _ (all_ends_room about r.detail (loses_out marks) 0 (streaming_of r) small is)

-- after it there is room, if the numbers of interfaces are bytes; what is so of the device's function stays so
pub microframe_room : (about : FunctionFields → Type 0) → ((function : FunctionFields) → about function → HaveSmallNumbers function)
    → (marks : List PhraseMark) (r : RunningWorld) → IsRoomy about r.device → IsRoomy about (microframe marks r).world.device
unfolding microframe
microframe_room about small marks r is =
    let numbered : RunningWorld = record r { time = at_most_u64 (r.time + 1) } in
    let within = ticks_within about marks numbered is.function is.room in
    ends_room about marks (packets_and_ticks marks numbered).world (small _ within.function) within

pub one_microframe : (marks : List PhraseMark) (r : RunningWorld) → HaveSmallNumbers r.device.function → HaveRoom r.device
    → HaveRoom (microframe marks r).world.device
one_microframe marks r small room =
    (microframe_room HaveSmallNumbers (λ function is. is) marks r (record { room = room; function = small })).room

-- ---- what else changes the device

pub deviation_room : (clock : ℕ) (ppm : ℤ) (r : RunningWorld) → IsDeviationInRange ppm → HaveRoom r.device
    → HaveRoom (with_deviation clock ppm r).device
unfolding with_deviation
deviation_room clock ppm r range room = deviated_room clock ppm r.device range room

pub transferred_room : (p : Setup) (bytes : List ℕ) (r : RunningWorld) → HaveRoom r.device → HaveRoom (after_transfer p bytes r).device
unfolding after_transfer after_following
transferred_room p bytes r room = by (holds_setting p bytes r) r.breaks
  where
    by : (b : Bool) (breaks : Option When)
        → HaveRoom (let s = record (streaming_of r) { device = acts breaks r.device (after_control p bytes r.device) } in
        if b then after_following p.index (stream_in_setting r.device.function r.device.controls p.index p.value) s else s).device
    by true None = controlled_room r.device room p bytes
    by true (Some when.Before) = room
    by true (Some when.After) = controlled_room r.device room p bytes
    by false None = controlled_room r.device room p bytes
    by false (Some when.Before) = room
    by false (Some when.After) = controlled_room r.device room p bytes
