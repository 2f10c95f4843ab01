-- The lines that a bench prints (profile), each as what it says, and its spelling. The stream's interface is 1, and so are its terminal and
-- its domain.
use Rattle.std.specs.Prelude.{ℕ, zero, suc, ◌+◌, ◌/◌, nat_le, Bool, true, false, List, [], ◌∷◌, ◌++◌, length, map, sum, flat_map}
use Rattle.std.specs.Prelude.{Option, None, Some, Result, codes, decimal}
use Rattle.std.specs.Int.{bytes_high_first}
use Rattle.hex.specs.Hex.{encode_lower}
use Rattle.uac_edges.specs.Writing.{Writes}
use Rattle.uac_units.specs.Hearing.{at_most_u64}
use Rattle.uac_ring.specs.declared.counts.StreamCounts.{StreamCounts}
use Rattle.uac_transcript.specs.Transcript.{Said, spelling_of, says_time, says_steady, says_domain, lost_or_ok, with_stream}
use Rattle.uac_bench.specs.BenchLines.{if_said, number_lines, arrival_lines, ticked_lines, told_level}
use Rattle.uac_bench.specs.BenchStreams.{StreamWorld, level_of, arrival_of, after_tick, is_dry, played_in}
use Rattle.uac_fullspeed.specs.declared.printing.Shown.{Shown}
use Rattle.uac_fullspeed.specs.FullSpeedWorld.{FullSpeedWorld, is_steady_in, size_next, ticks_next, at_ticks, after_frame, passed, before_feedback}
use Rattle.uac_fullspeed.specs.FullSpeedWorld.{is_feedback_due, feedback_in, bus_frame}

pub data FsLine : Type 0 where
  -- a line that the run of a device has, too
  says_as_run : Said → FsLine
  -- the value that a feedback report has, and whether it was lost
  says_fs_feedback : ℕ → Bool → FsLine
  -- of the report of the bench: the stream's level and target, and what it met
  says_stream : ℕ → Option ℕ → StreamCounts → FsLine

-- a line's bytes, with the newline; a feedback report has six digits
unfoldable pub fs_spelling_of : FsLine → List ℕ
fs_spelling_of (says_as_run said) = spelling_of said
fs_spelling_of (says_fs_feedback value lost) =
    codes "f 1 " ++ encode_lower (bytes_high_first 3 value) ++ codes " " ++ lost_or_ok lost ++ codes "\n"
fs_spelling_of (says_stream level target met) =
    with_stream (codes "stream 1") level target met ++ codes " missed " ++ decimal met.missed ++ codes "\n"

-- the text of lines, and what a call that prints them leaves in a sink: at Ok all of it was written, at Err a front
abbrev pub fs_text_of : List FsLine → List ℕ
fs_text_of lines = flat_map fs_spelling_of lines

abbrev pub FsPrints : {T E : Type 0} → Option (List ℕ) → Option (List ℕ) → Result T E → List FsLine → Type 0
FsPrints old new result lines = Writes old new result (fs_text_of lines)

-- ---- a bus frame

-- lines that the run of a device has, too
abbrev pub as_run : List Said → List FsLine
as_run saids = map says_as_run saids

-- the number of the bus frame that has come, counted from 1
abbrev pub frame_number : FullSpeedWorld → List Said
frame_number w = number_lines w.detail (at_most_u64 (length w.steps))

abbrev pub tick_lines : ℕ → StreamWorld → List Said
tick_lines detail s = ticked_lines detail (is_dry s) (played_in s)

unfoldable pub ticks_lines : ℕ → ℕ → StreamWorld → List Said
ticks_lines zero detail s = []
ticks_lines (suc count) detail s = tick_lines detail s ++ ticks_lines count detail (after_tick s)

abbrev pub level_lines : ℕ → StreamWorld → List Said
level_lines detail s = told_level detail (level_of s) s.target

abbrev pub feedback_lines_if : Bool → ℕ → Bool → ℕ → List FsLine
feedback_lines_if false detail lost value = []
feedback_lines_if true detail lost value = if_said (nat_le 2 detail) (says_fs_feedback value lost ∷ [])

-- the lines of the stream: its packet, its ticks, and its level in the end
unfoldable pub stream_lines : ℕ → Bool → ℕ → ℕ → StreamWorld → List Said
stream_lines detail packet_lost size ticks s =
    arrival_lines detail size (arrival_of 1024 packet_lost size s)
    ++ (ticks_lines ticks detail (at_ticks packet_lost size s) ++ level_lines detail (after_frame packet_lost size ticks s))

-- the lines up to the report, which is the last
unfoldable pub lines_before_feedback : Bool → FullSpeedWorld → List Said
lines_before_feedback packet_lost w = frame_number (passed packet_lost w) ++ stream_lines w.detail packet_lost (size_next w) (ticks_next w) w.stream

abbrev pub feedback_lines : Bool → FullSpeedWorld → List FsLine
feedback_lines report_lost w = feedback_lines_if (is_feedback_due w) w.detail report_lost (feedback_in w)

unfoldable pub frame_lines : Bool → Bool → FullSpeedWorld → List FsLine
frame_lines packet_lost report_lost w = as_run (lines_before_feedback packet_lost w) ++ feedback_lines report_lost (before_feedback packet_lost w)

unfoldable pub frames_lines : ℕ → Bool → Bool → FullSpeedWorld → List FsLine
frames_lines zero packet_lost report_lost w = []
frames_lines (suc count) packet_lost report_lost w =
    frame_lines packet_lost report_lost w ++ frames_lines count packet_lost report_lost (bus_frame packet_lost report_lost w)

-- ---- the report of the bench

-- the bus frames since the start, whether all was steady, the domain's rate and ticks, and the stream
abbrev pub shown_lines : Shown → List FsLine
shown_lines s =
    says_as_run (says_time s.time) ∷ says_as_run (says_steady s.steady) ∷ says_as_run (says_domain 1 (Some s.rate) s.ticks)
    ∷ says_stream s.level s.target s.met ∷ []

abbrev pub shown_in : FullSpeedWorld → Shown
shown_in w = record {
  time = at_most_u64 (length w.steps);
  steady = is_steady_in w;
  rate = w.rate;
  ticks = at_most_u64 (sum w.steps / 16384);
  level = level_of w.stream;
  target = w.stream.target;
  met = w.stream.met;
}

abbrev pub state_lines : FullSpeedWorld → List FsLine
state_lines w = shown_lines (shown_in w)
