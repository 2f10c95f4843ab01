-- What each line of a script makes of a pair, and what it prints (profile).
use Rattle.std.specs.Prelude.{◌≡◌, ℕ, ◌+◌, ◌/◌, Bool, true, false, ℤ, pos, negsuc, List, [], ◌∷◌, ◌++◌, map, flat_map, sum, Option, None, Some, Result, Ok, Err, codes, decimal}
use Rattle.std.specs.List.{list_all}
use Rattle.uac_units.specs.Hearing.{at_most_u64}
use Rattle.uac_script.specs.declared.line.MarkKind.{MarkKind}
use Rattle.uac_script.specs.declared.line.MarkKind.TheVariants as mark_kinds
use Rattle.uac_script.specs.Phrase.{PhraseMark, Phrase, nothing_line, bytes_line, go_line, control_line, get_line, set_line, show_line, break_line}
use Rattle.uac_script.specs.Losses as marked
use Rattle.uac_script.specs.Losses.{is_at}
use Rattle.uac_script.specs.Phrase.{append_line, track_line, jack_line, deviate_line, microframes_line, detail_line, report_line}
use Rattle.uac_ring.specs.declared.counts.StreamCounts.{StreamCounts}
use Rattle.uac_transcript.specs.Transcript.{Said, spelling_of, with_stream, says_time, says_domain}
use Rattle.uac_bench.specs.BenchStreams.{level_of}
use Rattle.uac_implicit.specs.declared.marks.Losses.{Losses}
use Rattle.uac_implicit.specs.Following.{PairWorld, microframes, microframes_lines}

-- ---- the lines that a pair prints

pub data PairSaid : Type 0 where
  -- a line that a run prints, too
  printed : Said → PairSaid
  -- in the report, the stream to the device: its level, its target once it is primed, and what it met
  says_pair_out : ℕ → Option ℕ → StreamCounts → PairSaid
  -- in the report, the stream from the device: how many of its packets were lost
  says_pair_in : ℕ → PairSaid

-- a line's bytes, with the newline
unfoldable pub pair_spelling : PairSaid → List ℕ
pair_spelling (printed said) = spelling_of said
pair_spelling (says_pair_out level target met) = with_stream (codes "stream 1 out") level target met ++ codes "\n"
pair_spelling (says_pair_in lost) = codes "stream 2 in lost " ++ decimal lost ++ codes "\n"

-- the lines, one after the other
abbrev pub pair_text : List PairSaid → List ℕ
pair_text lines = flat_map pair_spelling lines

-- the report
unfoldable pub pair_report : PairWorld → List PairSaid
pair_report w =
    printed (says_time (at_most_u64 w.time)) ∷ printed (says_domain 1 (Some w.rate) (at_most_u64 (sum w.steps / 65536)))
    ∷ says_pair_out (level_of w.out) w.out.target w.out.met ∷ says_pair_in w.in_lost ∷ []

-- ---- what a line asks for

abbrev pub natural : ℤ → ℕ
natural (pos n) = n
natural (negsuc n) = 0

-- a pair has the stream 1 to the device and the stream 2 from it, and no reports
abbrev pub is_of_pair_by : MarkKind → ℤ → Bool
is_of_pair_by mark_kinds.Out interface = is_at interface 1
is_of_pair_by mark_kinds.In interface = is_at interface 2
is_of_pair_by mark_kinds.Feedback interface = false

abbrev pub is_of_pair : PhraseMark → Bool
is_of_pair mark = is_of_pair_by mark.kind mark.interface

-- what is lost in each microframe, by marks that are all of a pair
abbrev pub losses_of : List PhraseMark → Losses
losses_of marks = record {
  loses_out = marked.loses_out marks 1;
  loses_in = marked.loses_in marks 2;
}

-- ---- what a line makes of the world

-- the next world and the lines that are printed, or the rule of the script that the line breaks
pub data PairStep : Type 0 where
  pair_done : PairWorld → List PairSaid → PairStep
  pair_refused : ℕ → PairStep

abbrev pub pair_unless : Bool → ℕ → PairStep → PairStep
pair_unless true rule step = step
pair_unless false rule step = pair_refused rule

abbrev pub pair_silently : PairWorld → PairStep
pair_silently w = pair_done w []

abbrev pub pair_microframes : Losses → ℕ → PairWorld → PairStep
pair_microframes losses count w = pair_done (microframes losses count w) (map printed (microframes_lines losses count w))

abbrev pub pair_step : Phrase → PairWorld → PairStep
pair_step nothing_line w = pair_silently w
pair_step (bytes_line bytes) w = pair_refused 5
pair_step go_line w = pair_refused 5
pair_step (control_line setup sent) w = pair_refused 5
pair_step (get_line name) w = pair_refused 5
pair_step (set_line name value) w = pair_refused 5
pair_step (show_line name) w = pair_refused 5
pair_step (break_line after) w = pair_refused 5
pair_step (append_line interface samples) w = pair_refused 5
pair_step (track_line interface tone) w = pair_refused 5
pair_step (jack_line terminal tone) w = pair_refused 5
pair_step (deviate_line domain ppm) w = pair_unless (is_at domain 1) 6 (pair_silently (record w { deviation = ppm }))
pair_step (microframes_line count marks) w = pair_unless (list_all is_of_pair marks) 6 (pair_microframes (losses_of marks) (natural count) w)
pair_step (detail_line level) w = pair_silently (record w { detail = natural level })
pair_step report_line w = pair_done w (pair_report w)

-- the same, of what a text says: a line, or the rule of spelling that it breaks
abbrev pub pair_said_step : Result Phrase ℕ → PairWorld → PairStep
pair_said_step (Ok phrase) w = pair_step phrase w
pair_said_step (Err rule) w = pair_refused rule

-- ---- lines, one after the other

-- what lines come to: what they print, the world, and the rule that the line after those breaks, if one is refused
pub record PairAfter : Type 0 where
  pub lines : List PairSaid
  pub world : PairWorld
  pub refusal : Option ℕ

abbrev pub pair_and_then : PairStep → PairWorld → (PairWorld → PairAfter) → PairAfter
pair_and_then (pair_done next lines) w go = let rest = go next in record rest { lines = lines ++ rest.lines }
pair_and_then (pair_refused rule) w go = record { lines = []; world = w; refusal = Some rule }

-- the lines in order, up to the first that is refused
unfoldable pub pair_after : List (Result Phrase ℕ) → PairWorld → PairAfter
pair_after [] w = record { lines = []; world = w; refusal = None }
pair_after (said ∷ saids) w = pair_and_then (pair_said_step said w) w (pair_after saids)

-- the script's end breaks no rule
abbrev pub pair_finish : PairWorld → Option ℕ
pair_finish w = None
