-- Implicit feedback (USB 2.0, 5.12.4.3): a pair of mono streams of one clock at high speed. The host sends as many frames as the last
-- packet of the device that came had. Stream 1 goes to the device and plays at terminal 1, stream 2 comes from it. The world's lists begin
-- with the pair. The order of events and what is printed are the profile's.
use Rattle.std.specs.Prelude.{ℕ, zero, suc, ◌+◌, Bool, true, false, ◌&&◌, ◌||◌, not, nat_le, if◌then◌else◌, ℤ, pos, List, [], ◌∷◌, ◌++◌, length, map, replicate, Option, Some, None, min, max}
use Rattle.uac_clock.specs.declared.values.Nominal.{Nominal}
use Rattle.uac_clock.specs.Nominal.{values_of, step_of}
use Rattle.uac_clock.specs.Ticks.{ticks_in}
use Rattle.uac_rate.specs.PacketSizes.{frames_in_packet}
use Rattle.uac_units.specs.Hearing.{at_most_u64}
use Rattle.uac_transcript.specs.Transcript.{Said, says_in, says_frame}
use Rattle.uac_implicit.specs.declared.marks.Losses.{Losses}
use Rattle.uac_bench.specs.BenchLines.{if_said, number_lines, arrival_lines, ticked_lines, told_level}
use Rattle.uac_bench.specs.BenchStreams.{StreamWorld, stream_start, level_of, arrival_of, after_packet, played_in, after_tick, is_dry, with_zeros, after_priming}

pub record PairWorld : Type 0 where
  -- the rate of the clock in Hz, what it is off by in ppm, and its steps, one for each microframe
  pub rate : ℕ
  pub deviation : ℤ
  pub steps : List ℕ
  -- the stream to the device
  pub out : StreamWorld
  -- the stream from the device: the frames in its ring, and how many frames the packets heard had, the latest first
  pub waiting : List (List ℤ)
  pub heard : List ℕ
  -- how many microframes there were, how much is printed of each, and how many packets from the device were lost; that count stands still
  -- at the greatest number of 64 bits
  pub time : ℕ
  pub detail : ℕ
  pub in_lost : ℕ
  -- what nothing prints: whether the last packet from the device was lost, and how many microframes since the stream was primed lost
  -- their packet to the device, or came after a lost one from it
  pub in_was_lost : Bool
  pub strayed : ℕ

unfoldable pub pair_start : ℕ → PairWorld
pair_start rate = record {
  rate = rate;
  deviation = pos 0;
  steps = [];
  out = stream_start;
  waiting = [];
  heard = [];
  time = 0;
  detail = 0;
  in_lost = 0;
  in_was_lost = false;
  strayed = 0;
}

-- the most frames in the ring of the stream to the device
abbrev pub most_frames : ℕ
most_frames = 2048

-- the world after so many of the same, and the lines that are said on the way to it
unfoldable pub times : {W : Type 0} → (W → W) → ℕ → W → W
times next zero w = w
times next (suc count) w = times next count (next w)

unfoldable pub lines_times : {W : Type 0} → (W → List Said) → (W → W) → ℕ → W → List Said
lines_times says next zero w = []
lines_times says next (suc count) w = says w ++ lines_times says next count (next w)

-- ---- the host

-- a number of frames, held between the least packet and the greatest
abbrev pub clamped : Nominal → ℕ → ℕ
clamped values frames = max values.lo (min frames values.hi)

-- the frames of the host's packet in a microframe, counted from 1: as many as it heard last, and at the nominal pace where it heard none
abbrev pub size_by : Nominal → ℕ → List ℕ → ℕ
size_by values microframe [] = frames_in_packet 1 (replicate microframe values.f)
size_by values microframe (latest ∷ older) = clamped values latest

unfoldable pub size_next : PairWorld → ℕ
size_next w = size_by (values_of w.rate) (suc w.time) w.heard

-- ---- the clock

unfoldable pub step_next : PairWorld → ℕ
step_next w = step_of (values_of w.rate) w.deviation

unfoldable pub ticks_next : PairWorld → ℕ
ticks_next w = ticks_in (w.steps ++ step_next w ∷ [])

-- ---- the steps of a microframe

-- 1. the packet to the device
unfoldable pub sent_out : Bool → PairWorld → PairWorld
sent_out lost w = record w { out = after_packet most_frames lost (size_next w) w.out }

-- 2. the packet from the device has all that waits; the first one has nothing yet, and isn't heard
abbrev pub hears : Bool → ℕ → ℕ → List ℕ → List ℕ
hears true time frames heard = heard
hears false zero frames heard = heard
hears false (suc time) frames heard = frames ∷ heard

unfoldable pub sent_in : Bool → PairWorld → PairWorld
sent_in lost w =
    record w {
      waiting = [];
      heard = hears lost w.time (length w.waiting) w.heard;
      in_lost = if lost then at_most_u64 (w.in_lost + 1) else w.in_lost;
    }

-- 3. a tick plays a frame, and puts it into the ring of the stream from the device
unfoldable pub tick : PairWorld → PairWorld
tick w = record w { out = after_tick w.out; waiting = w.waiting ++ played_in w.out ∷ [] }

abbrev pub ticks : ℕ → PairWorld → PairWorld
ticks count w = times tick count w

-- what strays: nothing before the stream is primed
abbrev pub strays : Option ℕ → Bool → ℕ → ℕ
strays None any count = 0
strays (Some target) true count = suc count
strays (Some target) false count = count

-- 4. and 5. a lost packet to the device is replaced by a zero frame for each tick, and a priming stream with enough frames becomes primed;
-- `before` is the world before the microframe
unfoldable pub ended : Losses → PairWorld → PairWorld → PairWorld
ended losses before w =
    record before {
      steps = before.steps ++ step_next before ∷ [];
      out = after_priming (if losses.loses_out then with_zeros (ticks_next before) w.out else w.out);
      waiting = w.waiting;
      heard = w.heard;
      in_lost = w.in_lost;
      time = suc before.time;
      in_was_lost = losses.loses_in;
      strayed = strays before.out.target (losses.loses_out || before.in_was_lost) before.strayed;
    }

-- the world at the ticks, and after them
unfoldable pub at_ticks : Losses → PairWorld → PairWorld
at_ticks losses w = sent_in losses.loses_in (sent_out losses.loses_out w)

unfoldable pub microframe : Losses → PairWorld → PairWorld
microframe losses w = ended losses w (ticks (ticks_next w) (at_ticks losses w))

abbrev pub microframes : Losses → ℕ → PairWorld → PairWorld
microframes losses count w = times (microframe losses) count w

-- ---- what is printed

unfoldable pub out_lines : Bool → PairWorld → List Said
out_lines lost w = arrival_lines w.detail (size_next w) (arrival_of most_frames lost (size_next w) w.out)

unfoldable pub in_lines : Bool → PairWorld → List Said
in_lines lost w =
    if_said (nat_le 2 w.detail) (says_in 2 (length w.waiting) lost ∷ [])
    ++ if_said (nat_le 1 w.detail && not lost) (map (says_frame 2) w.waiting)

unfoldable pub tick_lines : PairWorld → List Said
tick_lines w = ticked_lines w.detail (is_dry w.out) (played_in w.out)

abbrev pub ticks_lines : ℕ → PairWorld → List Said
ticks_lines count w = lines_times tick_lines tick count w

abbrev pub numbered_lines : PairWorld → List Said
numbered_lines w = number_lines w.detail (at_most_u64 (suc w.time))

abbrev pub level_lines : PairWorld → List Said
level_lines w = told_level w.detail (level_of w.out) w.out.target

-- the lines of a microframe
unfoldable pub packet_lines : Losses → PairWorld → List Said
packet_lines losses w = out_lines losses.loses_out w ++ in_lines losses.loses_in (sent_out losses.loses_out w)

unfoldable pub microframe_lines : Losses → PairWorld → List Said
microframe_lines losses w =
    numbered_lines w ++ (packet_lines losses w ++ (ticks_lines (ticks_next w) (at_ticks losses w) ++ level_lines (microframe losses w)))

abbrev pub microframes_lines : Losses → ℕ → PairWorld → List Said
microframes_lines losses count w = lines_times (microframe_lines losses) (microframe losses) count w
