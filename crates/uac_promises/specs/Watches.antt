-- The lines that a script prints, each with the world in which it is printed, and with how long ago each stream was primed and lost a
-- packet (profile).
use Rattle.std.specs.Prelude.{ℕ, zero, suc, List, [], ◌∷◌, ◌++◌, map, Option, Some, None, Result, Ok, Err}
use Rattle.uac_script.specs.Phrase.{PhraseMark, Phrase, nothing_line, bytes_line, go_line, control_line, get_line, set_line, show_line}
use Rattle.uac_script.specs.Phrase.{break_line}
use Rattle.uac_script.specs.Phrase.{append_line, track_line, jack_line, deviate_line, microframes_line, detail_line, report_line}
use Rattle.uac_transcript.specs.Transcript.{Said}
use Rattle.uac_running.specs.RunningWorld.{RunningWorld}
use Rattle.uac_running.specs.RunningNames.{natural_of_int}
use Rattle.uac_running.specs.Events.{microframe}
use Rattle.uac_rows.specs.BusWorld.{Step, BusWorld, describing, done, refused, running, step}
use Rattle.uac_levels.specs.Past.{Pasts, pasts_after}

-- a printed line, the world after the microframe or the line of the script that printed it, and the pasts of its streams there
pub record Watch : Type 0 where
  pub said : Said
  pub world : BusWorld
  pub pasts : Pasts

abbrev pub watch_in : BusWorld → Pasts → Said → Watch
watch_in w pasts said = record { said = said; world = w; pasts = pasts }

-- printed lines, and the pasts after them
pub record Watches : Type 0 where
  pub lines : List Watch
  pub pasts : Pasts

abbrev pub watches_first : List Watch → Watches → Watches
watches_first lines rest = record rest { lines = lines ++ rest.lines }

-- so many microframes with these losses: the lines of each with the world after it
unfoldable pub microframe_watches : List PhraseMark → ℕ → RunningWorld → Pasts → Watches
microframe_watches marks zero r pasts = record { lines = []; pasts = pasts }
microframe_watches marks (suc n) r pasts =
    let next = (microframe marks r).world in
    let later = pasts_after marks r pasts in
    watches_first (map (watch_in (running next) later) (microframe marks r).lines) (microframe_watches marks n next later)

-- the microframes for which a line of a script asks
pub record Microframes : Type 0 where
  pub count : ℕ
  pub marks : List PhraseMark

abbrev pub microframes_of : Phrase → Option Microframes
microframes_of nothing_line = None
microframes_of (bytes_line bytes) = None
microframes_of go_line = None
microframes_of (control_line setup sent) = None
microframes_of (get_line name) = None
microframes_of (set_line name value) = None
microframes_of (show_line name) = None
microframes_of (break_line after) = None
microframes_of (append_line number samples) = None
microframes_of (track_line number tone) = None
microframes_of (jack_line terminal tone) = None
microframes_of (deviate_line domain ppm) = None
microframes_of (microframes_line count marks) = Some (record { count = natural_of_int count; marks = marks })
microframes_of (detail_line level) = None
microframes_of report_line = None

-- a line of a script that was done in a world: the microframes that it asks for are seen one by one; and else the lines that it prints, in
-- the world that it leaves
unfoldable pub line_watches : Option Microframes → BusWorld → BusWorld → List Said → Pasts → Watches
line_watches None w next lines pasts = record { lines = map (watch_in next pasts) lines; pasts = pasts }
line_watches (Some m) (describing bytes meters) next lines pasts = record { lines = map (watch_in next pasts) lines; pasts = pasts }
line_watches (Some m) (running r) next lines pasts = microframe_watches m.marks m.count r pasts

-- one line after the other, up to the first that is refused
abbrev pub and_then_watches : Step → Option Microframes → BusWorld → Pasts → (BusWorld → Pasts → Watches) → Watches
and_then_watches (done next lines) m w pasts go =
    let first = line_watches m w next lines pasts in
    watches_first first.lines (go next first.pasts)
and_then_watches (refused fault) m w pasts go = record { lines = []; pasts = pasts }

unfoldable pub watches_after : List (Result Phrase ℕ) → BusWorld → Pasts → Watches
watches_after [] w pasts = record { lines = []; pasts = pasts }
watches_after (Ok phrase ∷ saids) w pasts = and_then_watches (step phrase w) (microframes_of phrase) w pasts (watches_after saids)
watches_after (Err rule ∷ saids) w pasts = record { lines = []; pasts = pasts }
