-- What is promised of a full-speed stream while its clock and its reports are steady (profile; feedback is that of USB 2.0, 5.12.4.2).
use Rattle.std.specs.Prelude.{◌≡◌, ◌≢◌, ℕ, zero, suc, ◌≤◌, ◌⊎◌, Bool, true, List, [], ◌∷◌, ◌++◌, flat_map, Option, Some, None, Result, Ok, Err}
use Rattle.std.specs.List.{AllByRecursion}
use Rattle.uac_rate.specs.Levels.{Within}
use Rattle.uac_script.specs.Phrase.{Phrase, nothing_line, bytes_line, go_line, control_line, get_line, set_line, show_line, break_line}
use Rattle.uac_script.specs.Phrase.{append_line, track_line, jack_line, deviate_line, microframes_line, detail_line, report_line}
use Rattle.uac_ring.specs.declared.arrival.Arrival.TheVariants as arrivals
use Rattle.uac_ring.specs.declared.counts.StreamCounts.{StreamCounts}
use Rattle.uac_transcript.specs.Transcript.{says_under, says_over, says_level}
use Rattle.uac_bench.specs.BenchStreams.{StreamWorld, level_of, arrival_of, numbered, after_ticks, with_zeros}
use Rattle.uac_fullspeed.specs.FullSpeedNominal.{is_fs_listed}
use Rattle.uac_fullspeed.specs.FullSpeedWorld.{FullSpeedWorld, full_speed_start, is_steady_in, size_next, ticks_next, at_ticks, ticked}
use Rattle.uac_fullspeed.specs.FullSpeedWorld.{after_frame, bus_frame}
use Rattle.uac_fullspeed.specs.FullSpeedLines.{FsLine, says_as_run, says_stream, frame_lines}
use Rattle.uac_fullspeed.specs.FullSpeedSteps.{FsStep, fs_done, fs_refused, fs_step, fs_after, natural_of_int, loses_packet, loses_feedback}

-- ---- a level, a moment, a line

-- the level of a primed stream is within 135 frames of its target, and within 8 where every packet came since it was primed
abbrev pub IsFsNear : Option ℕ → ℕ → Bool → Type 0
IsFsNear None level whole = Unit {0}
IsFsNear (Some target) level whole = Within 135 level target × (whole ≡ true → Within 8 level target)

-- no ring was found empty, and none had no room
abbrev pub HasMetNone : StreamCounts → Type 0
HasMetNone met = (met.under ≡ 0) × (met.over ≡ 0)

pub record IsFsKept (w : FullSpeedWorld) : Type 0 where
  pub near : IsFsNear w.stream.target (level_of w.stream) w.whole
  pub met : HasMetNone w.stream.met

-- the ring of a primed stream holds 24 to 584 frames
abbrev pub IsFsSafe : StreamWorld → Type 0
IsFsSafe s = (target : ℕ) → s.target ≡ Some target → (24 ≤ level_of s) × (level_of s ≤ 584)

-- the stream at a moment of a bus frame: as so many frames of its packet have come, after so many of its ticks, as so many zeros have come in
-- place of a lost packet, and at the end
abbrev pub IsMoment : Bool → ℕ → ℕ → StreamWorld → StreamWorld → Type 0
IsMoment packet_lost size ticks s v =
    ((came : ℕ) × (arrival_of 1024 packet_lost size s ≡ arrivals.Taken) × (came ≤ size)
    × (v ≡ record s { arrived = s.arrived ++ numbered s.formed came }))
    ⊎ (((passed : ℕ) × (passed ≤ ticks) × (v ≡ after_ticks passed (at_ticks packet_lost size s)))
    ⊎ (((zeros : ℕ) × (packet_lost ≡ true) × (zeros ≤ ticks) × (v ≡ with_zeros zeros (ticked packet_lost size ticks s)))
    ⊎ (v ≡ after_frame packet_lost size ticks s)))

-- a printed line tells of no ring that was found empty, and of none that had no room, counts none of them, and each level of a primed stream
-- that it tells is near its target; `whole` says whether every packet came since the stream was primed
pub record IsKeptLine (whole : Bool) (line : FsLine) : Type 0 where
  pub no_under : (interface : ℕ) → line ≢ says_as_run (says_under interface)
  pub no_over : (interface : ℕ) → line ≢ says_as_run (says_over interface)
  pub level : (interface level target : ℕ) → line ≡ says_as_run (says_level interface level (Some target)) → IsFsNear (Some target) level whole
  pub stream : (level : ℕ) (target : Option ℕ) (met : StreamCounts) → line ≡ says_stream level target met
      → IsFsNear target level whole × HasMetNone met

-- ---- what happens in a script

-- a bus frame, by its losses and the world before it; or the lines that another line of the script printed, and the world after it
pub data Happening : Type 0 where
  bus_frame_passed : Bool → Bool → FullSpeedWorld → Happening
  line_done : List FsLine → FullSpeedWorld → Happening

unfoldable pub frames_passed : ℕ → Bool → Bool → FullSpeedWorld → List Happening
frames_passed zero packet_lost report_lost w = []
frames_passed (suc count) packet_lost report_lost w =
    bus_frame_passed packet_lost report_lost w ∷ frames_passed count packet_lost report_lost (bus_frame packet_lost report_lost w)

-- what happens in a line of the script that was done
abbrev pub happens_in : Phrase → List FsLine → FullSpeedWorld → FullSpeedWorld → List Happening
happens_in nothing_line lines next w = line_done lines next ∷ []
happens_in (bytes_line bytes) lines next w = line_done lines next ∷ []
happens_in go_line lines next w = line_done lines next ∷ []
happens_in (control_line setup sent) lines next w = line_done lines next ∷ []
happens_in (get_line name) lines next w = line_done lines next ∷ []
happens_in (set_line name value) lines next w = line_done lines next ∷ []
happens_in (show_line name) lines next w = line_done lines next ∷ []
happens_in (break_line after) lines next w = line_done lines next ∷ []
happens_in (append_line number samples) lines next w = line_done lines next ∷ []
happens_in (track_line number tone) lines next w = line_done lines next ∷ []
happens_in (jack_line terminal tone) lines next w = line_done lines next ∷ []
happens_in (deviate_line domain ppm) lines next w = line_done lines next ∷ []
happens_in (microframes_line count marks) lines next w = frames_passed (natural_of_int count) (loses_packet marks) (loses_feedback marks) w
happens_in (detail_line level) lines next w = line_done lines next ∷ []
happens_in report_line lines next w = line_done lines next ∷ []

abbrev pub and_then_happens : FsStep → Phrase → FullSpeedWorld → (FullSpeedWorld → List Happening) → List Happening
and_then_happens (fs_done next lines) phrase w go = happens_in phrase lines next w ++ go next
and_then_happens (fs_refused rule) phrase w go = []

-- what happens in lines, one after the other, up to the first that is refused
unfoldable pub happenings : List (Result Phrase ℕ) → FullSpeedWorld → List Happening
happenings [] w = []
happenings (Ok phrase ∷ saids) w = and_then_happens (fs_step phrase w) phrase w (happenings saids)
happenings (Err rule ∷ saids) w = []

-- the lines that are printed then
abbrev pub lines_in : Happening → List FsLine
lines_in (bus_frame_passed packet_lost report_lost w) = frame_lines packet_lost report_lost w
lines_in (line_done lines w) = lines

-- they are those that the script prints
abbrev pub HappeningsPrint : Type 0
HappeningsPrint =
    (saids : List (Result Phrase ℕ)) (w : FullSpeedWorld) → flat_map lines_in (happenings saids w) ≡ (fs_after saids w).lines

-- ---- the promise

-- the world that is left is as promised, each printed line, and of a bus frame every moment
pub record IsKeptFrame (packet_lost report_lost : Bool) (w : FullSpeedWorld) : Type 0 where
  pub ends : IsFsKept (bus_frame packet_lost report_lost w)
  pub moments : (v : StreamWorld) → IsMoment packet_lost (size_next w) (ticks_next w) w.stream v → IsFsSafe v
  pub lines : AllByRecursion (IsKeptLine (bus_frame packet_lost report_lost w).whole) (frame_lines packet_lost report_lost w)

abbrev pub IsKept : Happening → Type 0
IsKept (bus_frame_passed packet_lost report_lost w) = IsKeptFrame packet_lost report_lost w
IsKept (line_done lines w) = IsFsKept w × AllByRecursion (IsKeptLine w.whole) lines

-- what the lines of a script said that leave a steady world
pub record IsFsPromised (saids : List (Result Phrase ℕ)) (hertz : ℕ) : Type 0 where
  pub left : IsFsKept (fs_after saids (full_speed_start hertz)).world
  pub kept : AllByRecursion IsKept (happenings saids (full_speed_start hertz))

-- so it is for every list of lines, and so for every front of a script's lines that is steady: at each of the ten rates
abbrev pub FullSpeedKeepsPromises : Type 0
FullSpeedKeepsPromises =
    (saids : List (Result Phrase ℕ)) (hertz : ℕ) → is_fs_listed hertz ≡ true
    → is_steady_in (fs_after saids (full_speed_start hertz)).world ≡ true → IsFsPromised saids hertz
