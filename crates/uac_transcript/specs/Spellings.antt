-- What a printed line's bytes tell: where the line ends, which kind it is, and its numbers (profile).
use Rattle.std.specs.Prelude.{◌≡◌, ◌≢◌, ◌↔◌, ℕ, ◌<◌, ◌^◌, List, [], ◌∷◌, ◌++◌, map, Option, Some, None, codes, decimal}
use Rattle.std.specs.List.{All, Contains}
use Rattle.uac_edges.specs.TextLines.{with_newlines}
use Rattle.uac_transcript.specs.Printing.{text_of}
use Rattle.uac_transcript.specs.Transcript.{Said, element_has_value, is_unknown, was_set, element_was_stalled, was_broken, number_or_dash, spelling_of}
use Rattle.uac_transcript.specs.Transcript.{says_ready, says_microframe, says_out, says_in, says_frame, says_played, says_under, says_over, says_level, says_feedback, says_answer, says_view}
use Rattle.uac_transcript.specs.Transcript.{says_time, says_steady, says_domain, says_out_stream, says_in_stream, says_meter, says_renders, says_misread, says_refused, says_unsound}
use Rattle.uac_transcript.specs.Transcript.{says_no_memory, says_read_fault, says_too_long}

-- ---- names and numbers of lines

-- a number of 64 bits
abbrev pub IsCount : ℕ → Type 0
IsCount number = number < 2 ^ 64

abbrev pub IsCountOrNone : Option ℕ → Type 0
IsCountOrNone None = Unit {0}
IsCountOrNone (Some number) = IsCount number

-- bytes of which none is a newline
abbrev pub HasNoNewline : List ℕ → Type 0
HasNoNewline bytes = All (λ byte. byte ≢ 10) bytes

-- no newline stands in the name of an element that a line tells; numbers, samples, values and bytes may be any
unfoldable pub HasPlainName : Said → Type 0
HasPlainName (says_ready entities streams domains) = Unit {0}
HasPlainName (says_microframe number) = Unit {0}
HasPlainName (says_out interface frames arrival) = Unit {0}
HasPlainName (says_in interface frames lost) = Unit {0}
HasPlainName (says_frame interface samples) = Unit {0}
HasPlainName (says_played terminal samples) = Unit {0}
HasPlainName (says_under interface) = Unit {0}
HasPlainName (says_over interface) = Unit {0}
HasPlainName (says_level interface level target) = Unit {0}
HasPlainName (says_feedback interface value lost) = Unit {0}
HasPlainName (says_answer outcome) = Unit {0}
HasPlainName (says_view (element_has_value name value)) = HasNoNewline name
HasPlainName (says_view (is_unknown name)) = HasNoNewline name
HasPlainName (says_view was_set) = Unit {0}
HasPlainName (says_view (element_was_stalled rule)) = Unit {0}
HasPlainName (says_view was_broken) = Unit {0}
HasPlainName (says_time time) = Unit {0}
HasPlainName (says_steady steady) = Unit {0}
HasPlainName (says_domain clock rate ticks) = Unit {0}
HasPlainName (says_out_stream interface setting level target met) = Unit {0}
HasPlainName (says_in_stream interface setting level over lost) = Unit {0}
HasPlainName (says_meter reading) = Unit {0}
HasPlainName (says_renders count) = Unit {0}
HasPlainName (says_misread rule number) = Unit {0}
HasPlainName (says_refused rule place) = Unit {0}
HasPlainName (says_unsound rule interface offender) = Unit {0}
HasPlainName says_no_memory = Unit {0}
HasPlainName says_read_fault = Unit {0}
HasPlainName says_too_long = Unit {0}

-- each number of a line that tells of a ring has 64 bits, as in a run; of other lines nothing is asked
unfoldable pub IsInRange : Said → Type 0
IsInRange (says_ready entities streams domains) = Unit {0}
IsInRange (says_microframe number) = Unit {0}
IsInRange (says_out interface frames arrival) = Unit {0}
IsInRange (says_in interface frames lost) = Unit {0}
IsInRange (says_frame interface samples) = Unit {0}
IsInRange (says_played terminal samples) = Unit {0}
IsInRange (says_under interface) = IsCount interface
IsInRange (says_over interface) = IsCount interface
IsInRange (says_level interface level target) = IsCount interface × IsCount level × IsCountOrNone target
IsInRange (says_feedback interface value lost) = Unit {0}
IsInRange (says_answer outcome) = Unit {0}
IsInRange (says_view sight) = Unit {0}
IsInRange (says_time time) = Unit {0}
IsInRange (says_steady steady) = Unit {0}
IsInRange (says_domain clock rate ticks) = Unit {0}
IsInRange (says_out_stream interface setting level target met) = Unit {0}
IsInRange (says_in_stream interface setting level over lost) = Unit {0}
IsInRange (says_meter reading) = Unit {0}
IsInRange (says_renders count) = Unit {0}
IsInRange (says_misread rule number) = Unit {0}
IsInRange (says_refused rule place) = Unit {0}
IsInRange (says_unsound rule interface offender) = Unit {0}
IsInRange says_no_memory = Unit {0}
IsInRange says_read_fault = Unit {0}
IsInRange says_too_long = Unit {0}

-- ---- a text and its lines

-- a newline stands at the end of the bytes, and nowhere else
pub record IsOneLine (bytes : List ℕ) : Type 0 where
  pub line : List ℕ
  pub ended : bytes ≡ line ++ 10 ∷ []
  pub within : HasNoNewline line

-- the text, cut at its newlines
pub record IsCutAtNewlines (text : List ℕ) (lines : List (List ℕ)) : Type 0 where
  pub whole : text ≡ with_newlines lines
  pub within : All HasNoNewline lines

-- ---- the kinds that tell of a ring

-- that a ring was found empty, that one was found full, and a level
abbrev pub SaysUnder : Said → Type 0
SaysUnder said = (interface : ℕ) × (said ≡ says_under interface)

abbrev pub SaysOver : Said → Type 0
SaysOver said = (interface : ℕ) × (said ≡ says_over interface)

abbrev pub SaysLevel : Said → Type 0
SaysLevel said = (interface : ℕ) × (level : ℕ) × (target : Option ℕ) × (said ≡ says_level interface level target)

-- ---- what a text tells

-- The text of these lines, cut at its newlines, is the lines; and what it has of lines that begin with `under `, `over ` or `l ` is what these
-- say of rings, with their numbers.
pub record IsReadBack (saids : List Said) : Type 0 where
  pub cut : (lines : List (List ℕ)) → IsCutAtNewlines (text_of saids) lines ↔ (map (λ line. line ++ codes "\n") lines ≡ map spelling_of saids)
  pub under : (lines : List (List ℕ)) (rest : List ℕ) → IsCutAtNewlines (text_of saids) lines
      → Contains lines (codes "under " ++ rest) ↔ ((interface : ℕ) × (rest ≡ decimal interface) × Contains saids (says_under interface))
  pub over : (lines : List (List ℕ)) (rest : List ℕ) → IsCutAtNewlines (text_of saids) lines
      → Contains lines (codes "over " ++ rest) ↔ ((interface : ℕ) × (rest ≡ decimal interface) × Contains saids (says_over interface))
  pub level : (lines : List (List ℕ)) (rest : List ℕ) → IsCutAtNewlines (text_of saids) lines
      → Contains lines (codes "l " ++ rest)
      ↔ ((interface : ℕ) × (level : ℕ) × (target : Option ℕ)
      × (rest ≡ decimal interface ++ codes " " ++ decimal level ++ codes " " ++ number_or_dash target)
      × Contains saids (says_level interface level target))
