-- What each line of a script makes of a bench (profile), and what lines come to, one after the other.
use Rattle.std.specs.Prelude.{ℕ, ◌+◌, ◌&&◌, Bool, true, false, ℤ, pos, negsuc, List, [], ◌∷◌, ◌++◌, Option, None, Some, Result, Ok, Err}
use Rattle.std.specs.List.{list_all}
use Rattle.uac_script.specs.declared.line.MarkKind.{MarkKind}
use Rattle.uac_script.specs.declared.line.MarkKind.TheVariants.{Out, In, Feedback}
use Rattle.uac_script.specs.Losses as marked
use Rattle.uac_script.specs.Losses.{is_at}
use Rattle.uac_script.specs.Phrase.{PhraseMark, Phrase, nothing_line, bytes_line, go_line, control_line, get_line, set_line, show_line}
use Rattle.uac_script.specs.Phrase.{break_line, append_line, track_line, jack_line, deviate_line, microframes_line, detail_line, report_line}
use Rattle.uac_fullspeed.specs.FullSpeedWorld.{FullSpeedWorld, bus_frames, with_deviation, with_detail}
use Rattle.uac_fullspeed.specs.FullSpeedLines.{FsLine, frames_lines, state_lines}

-- what a line makes of a world: the next world and the lines that it says, or the rule of the script with which it is refused
pub data FsStep : Type 0 where
  fs_done : FullSpeedWorld → List FsLine → FsStep
  fs_refused : ℕ → FsStep

-- the one stream, and its clock, have the number 1. Its packet to the device and its report can be lost; there is no packet from it
abbrev pub can_be_lost : MarkKind → Bool
can_be_lost Out = true
can_be_lost In = false
can_be_lost Feedback = true

abbrev pub is_of_stream : PhraseMark → Bool
is_of_stream mark = can_be_lost mark.kind && is_at mark.interface 1

-- marks lose the packet, or the report
abbrev pub loses_packet : List PhraseMark → Bool
loses_packet marks = marked.loses_out marks 1

abbrev pub loses_feedback : List PhraseMark → Bool
loses_feedback marks = marked.loses_feedback marks 1

abbrev pub natural_of_int : ℤ → ℕ
natural_of_int (pos n) = n
natural_of_int (negsuc n) = 0

abbrev pub unless : Bool → ℕ → FsStep → FsStep
unless true rule step = step
unless false rule step = fs_refused rule

abbrev pub frames_step : ℕ → Bool → Bool → FullSpeedWorld → FsStep
frames_step count packet_lost report_lost w =
    fs_done (bus_frames count packet_lost report_lost w) (frames_lines count packet_lost report_lost w)

unfoldable pub fs_step : Phrase → FullSpeedWorld → FsStep
fs_step nothing_line w = fs_done w []
fs_step (bytes_line bytes) w = fs_refused 5
fs_step go_line w = fs_refused 5
fs_step (control_line setup sent) w = fs_refused 5
fs_step (get_line name) w = fs_refused 5
fs_step (set_line name value) w = fs_refused 5
fs_step (show_line name) w = fs_refused 5
fs_step (break_line after) w = fs_refused 5
fs_step (append_line number samples) w = fs_refused 5
fs_step (track_line number tone) w = fs_refused 5
fs_step (jack_line terminal tone) w = fs_refused 5
fs_step (deviate_line domain ppm) w = unless (is_at domain 1) 6 (fs_done (with_deviation ppm w) [])
fs_step (microframes_line count marks) w =
    unless (list_all is_of_stream marks) 6 (frames_step (natural_of_int count) (loses_packet marks) (loses_feedback marks) w)
fs_step (detail_line level) w = fs_done (with_detail (natural_of_int level) w) []
fs_step report_line w = fs_done w (state_lines w)

-- ---- lines, one after the other

-- a line that says a phrase, or breaks a rule of spelling
abbrev pub fs_said_step : Result Phrase ℕ → FullSpeedWorld → FsStep
fs_said_step (Ok phrase) w = fs_step phrase w
fs_said_step (Err rule) w = fs_refused rule

-- what lines come to: the lines that they print, the world, how many were done, and the rule with which the one after those is refused, if
-- one is
pub record FsAfter : Type 0 where
  pub lines : List FsLine
  pub world : FullSpeedWorld
  pub count : ℕ
  pub refusal : Option ℕ

abbrev pub fs_one_done : List FsLine → FsAfter → FsAfter
fs_one_done lines rest = record rest { lines = lines ++ rest.lines; count = rest.count + 1 }

abbrev pub fs_and_then : FsStep → FullSpeedWorld → (FullSpeedWorld → FsAfter) → FsAfter
fs_and_then (fs_done next lines) w go = fs_one_done lines (go next)
fs_and_then (fs_refused rule) w go = record { lines = []; world = w; count = 0; refusal = Some rule }

-- the lines in order, up to the first that is refused
unfoldable pub fs_after : List (Result Phrase ℕ) → FullSpeedWorld → FsAfter
fs_after [] w = record { lines = []; world = w; count = 0; refusal = None }
fs_after (said ∷ saids) w = fs_and_then (fs_said_step said w) w (fs_after saids)
