-- One mono stream on a full-speed bus, with feedback (USB 2.0, 5.12.4.2; profile): a world whose lists begin with the bench, and what a
-- bus frame makes of it.
use Rattle.std.specs.Prelude.{ℕ, zero, suc, ◌+◌, ◌-◌, ◌/◌, ◌%◌, ◌==◌, Bool, true, false, ℤ, pos, List, [], ◌∷◌, ◌++◌, length, take, sum}
use Rattle.std.specs.Prelude.{Option, Some, None}
use Rattle.uac_rate.specs.Steadiness.{SteadyHistory, nothing_given, with_deviation_given, with_report_given, is_steady}
use Rattle.uac_bench.specs.BenchStreams.{StreamWorld, stream_start, level_of, one_missed, after_packet, after_ticks, with_zeros, after_priming}
use Rattle.uac_fullspeed.specs.declared.values.FsNominal.{FsNominal}
use Rattle.uac_fullspeed.specs.FullSpeedNominal.{fs_values_of, fs_step_of, fs_report_of}

pub record FullSpeedWorld : Type 0 where
  -- the stream's rate in Hz, and its nominal values
  pub rate : ℕ
  pub nominal : FsNominal
  -- the clock's deviation in ppm, and its steps, one for every bus frame
  pub deviation : ℤ
  pub steps : List ℕ
  -- the rate values used, one for every bus frame, and the value in force
  pub values : List ℕ
  pub value : ℕ
  pub stream : StreamWorld
  -- the deviations that were given, and of each report whether it was lost
  pub history : SteadyHistory
  -- how much is printed
  pub detail : ℕ
  -- what nothing prints: whether every packet came since the stream was primed
  pub whole : Bool

-- a stream at its start, at a rate in Hz
unfoldable pub full_speed_start : ℕ → FullSpeedWorld
full_speed_start hertz = record {
  rate = hertz;
  nominal = fs_values_of hertz;
  deviation = pos 0;
  steps = [];
  values = [];
  value = (fs_values_of hertz).f;
  stream = stream_start;
  history = nothing_given;
  detail = 0;
  whole = true;
}

-- all that was given is steady
abbrev pub is_steady_in : FullSpeedWorld → Bool
is_steady_in w = is_steady w.history

-- ---- paces

-- of values in 16,384ths of a frame, the whole frames of the last: those of all, without those of all but the last
abbrev pub frames_of_last : List ℕ → ℕ
frames_of_last values = sum values / 16384 - sum (take (length values - 1) values) / 16384

-- the frames of the next packet
abbrev pub size_next : FullSpeedWorld → ℕ
size_next w = frames_of_last (w.values ++ w.value ∷ [])

-- the clock's next step, and the ticks of the next bus frame
abbrev pub step_next : FullSpeedWorld → ℕ
step_next w = fs_step_of w.nominal w.deviation

abbrev pub ticks_next : FullSpeedWorld → ℕ
ticks_next w = frames_of_last (w.steps ++ step_next w ∷ [])

-- ---- a bus frame, of which the packet may be lost, and the report

-- 1. the packet: one that would bring the level above 1,024 is over
abbrev pub at_ticks : Bool → ℕ → StreamWorld → StreamWorld
at_ticks packet_lost size s = after_packet 1024 packet_lost size s

-- 2. the ticks
abbrev pub ticked : Bool → ℕ → ℕ → StreamWorld → StreamWorld
ticked packet_lost size ticks s = after_ticks ticks (at_ticks packet_lost size s)

-- 3. a lost packet is replaced by a silent frame for each tick
abbrev pub replaced_by : Bool → ℕ → StreamWorld → StreamWorld
replaced_by false ticks s = s
replaced_by true ticks s = with_zeros ticks s

-- 4. a priming stream with enough frames becomes primed
unfoldable pub after_frame : Bool → ℕ → ℕ → StreamWorld → StreamWorld
after_frame packet_lost size ticks s = after_priming (replaced_by packet_lost ticks (ticked packet_lost size ticks s))

-- whether every packet came: nothing counts before the stream is primed
abbrev pub whole_by : Option ℕ → Bool → Bool → Bool
whole_by None lost whole = true
whole_by (Some target) true whole = false
whole_by (Some target) false whole = whole

-- the host's pace and the clock have gone on by a bus frame
unfoldable pub passed : Bool → FullSpeedWorld → FullSpeedWorld
passed packet_lost w =
    record w {
      steps = w.steps ++ step_next w ∷ [];
      values = w.values ++ w.value ∷ [];
      whole = whole_by w.stream.target packet_lost w.whole;
    }

-- the world up to the report
unfoldable pub before_feedback : Bool → FullSpeedWorld → FullSpeedWorld
before_feedback packet_lost w = record (passed packet_lost w) { stream = after_frame packet_lost (size_next w) (ticks_next w) w.stream }

-- 5. in every eighth bus frame a report is formed
abbrev pub is_feedback_due : FullSpeedWorld → Bool
is_feedback_due w = length w.steps % 8 == 0

abbrev pub feedback_by : FsNominal → Option ℕ → ℕ → ℕ
feedback_by nominal None level = nominal.f
feedback_by nominal (Some target) level = fs_report_of nominal target level

abbrev pub feedback_in : FullSpeedWorld → ℕ
feedback_in w = feedback_by w.nominal w.stream.target (level_of w.stream)

-- where it comes it is the value in force from the next bus frame on; where it is lost it is missed
abbrev pub feedback_given : Bool → ℕ → FullSpeedWorld → FullSpeedWorld
feedback_given true value w =
    record w { stream = record w.stream { met = one_missed w.stream.met }; history = with_report_given 0 true w.history }
feedback_given false value w = record w { value = value; history = with_report_given 0 false w.history }

abbrev pub feedback_if : Bool → Bool → ℕ → FullSpeedWorld → FullSpeedWorld
feedback_if false lost value w = w
feedback_if true lost value w = feedback_given lost value w

unfoldable pub after_feedback : Bool → FullSpeedWorld → FullSpeedWorld
after_feedback report_lost w = feedback_if (is_feedback_due w) report_lost (feedback_in w) w

unfoldable pub bus_frame : Bool → Bool → FullSpeedWorld → FullSpeedWorld
bus_frame packet_lost report_lost w = after_feedback report_lost (before_feedback packet_lost w)

-- so many bus frames, with these losses in each
unfoldable pub bus_frames : ℕ → Bool → Bool → FullSpeedWorld → FullSpeedWorld
bus_frames zero packet_lost report_lost w = w
bus_frames (suc count) packet_lost report_lost w = bus_frames count packet_lost report_lost (bus_frame packet_lost report_lost w)

-- ---- between bus frames

-- the clock is off by so many ppm from now on
unfoldable pub with_deviation : ℤ → FullSpeedWorld → FullSpeedWorld
with_deviation ppm w = record w { deviation = ppm; history = with_deviation_given ppm w.history }

unfoldable pub with_detail : ℕ → FullSpeedWorld → FullSpeedWorld
with_detail detail w = record w { detail = detail }
