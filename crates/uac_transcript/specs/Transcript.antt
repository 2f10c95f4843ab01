-- The lines that a run prints, each as what it says, and its spelling (profile).
use Rattle.std.specs.Prelude.{ℕ, Bool, true, false, ℤ, List, [], ◌∷◌, ◌++◌, flat_map, Option, None, Some, codes, decimal}
use Rattle.std.specs.Int.{bytes_high_first}
use Rattle.hex.specs.Hex.{encode_lower}
use Rattle.uac_edges.specs.Numerals.{numeral}
use Rattle.uac_units.specs.Hearing.{Reading}
use Rattle.uac_units.specs.declared.meter.MeterKind.{MeterKind}
use Rattle.uac_units.specs.declared.meter.MeterKind.TheVariants.{Peak, Clipped, Sum}
use Rattle.uac_ring.specs.declared.arrival.Arrival.{Arrival}
use Rattle.uac_ring.specs.declared.arrival.Arrival.TheVariants as arrivals
use Rattle.uac_ring.specs.declared.counts.StreamCounts.{StreamCounts}

-- what came of a control transfer
pub data TransferOutcome : Type 0 where
  -- the transfer brought these bytes, of a control or of the descriptor
  gave : List ℕ → TransferOutcome
  was_done : TransferOutcome
  -- the transfer was stalled by this rule
  transfer_was_stalled : ℕ → TransferOutcome
  broke : TransferOutcome

-- what came of a line that names an element
pub data Sight : Type 0 where
  -- the element's name, and its value
  element_has_value : List ℕ → ℤ → Sight
  is_unknown : List ℕ → Sight
  was_set : Sight
  -- the element's transfer was stalled by this rule
  element_was_stalled : ℕ → Sight
  was_broken : Sight

pub data Said : Type 0 where
  -- at the descriptor's end: how many entities, streaming interfaces and domains there are
  says_ready : ℕ → ℕ → ℕ → Said
  -- the number of a microframe, from 1
  says_microframe : ℕ → Said
  -- the interface, the frames of its packet to the device, and how it arrived
  says_out : ℕ → ℕ → Arrival → Said
  -- the interface, the frames of its packet from the device, and whether it was lost
  says_in : ℕ → ℕ → Bool → Said
  -- the interface, and a frame that came from it
  says_frame : ℕ → List ℤ → Said
  -- the output jack, and a frame that it played
  says_played : ℕ → List ℤ → Said
  -- the interface whose ring was found empty, or full
  says_under : ℕ → Said
  says_over : ℕ → Said
  -- the interface, its level, and its target once it is primed
  says_level : ℕ → ℕ → Option ℕ → Said
  -- the interface, the value that its feedback reports, and whether the report was lost
  says_feedback : ℕ → ℕ → Bool → Said
  -- a control transfer, and a line that names an element
  says_answer : TransferOutcome → Said
  says_view : Sight → Said
  -- the report: the microframes since the start, and whether all was steady
  says_time : ℕ → Said
  says_steady : Bool → Said
  -- a domain's clock, its rate if it has one, and its ticks since the start
  says_domain : ℕ → Option ℕ → ℕ → Said
  -- a stream to the device: its interface, setting, level and target, and what it met
  says_out_stream : ℕ → ℕ → ℕ → Option ℕ → StreamCounts → Said
  -- a stream from the device: its interface, setting and level, the frames for which its ring had no room, and the packets lost
  says_in_stream : ℕ → ℕ → ℕ → ℕ → ℕ → Said
  -- what a meter shows
  says_meter : Reading → Said
  -- how many units were rendered
  says_renders : ℕ → Said
  -- the last line of a run that stops: a line of the script breaks this rule, and has this number
  says_misread : ℕ → ℕ → Said
  -- the descriptor breaks this rule of the grammar, at this place
  says_refused : ℕ → ℕ → Said
  -- it breaks this rule of the topology, at an interface or else at an entity, which has this number
  says_unsound : ℕ → Bool → ℕ → Said
  -- there was no memory, a read failed, and the input is longer than one may be
  says_no_memory : Said
  says_read_fault : Said
  says_too_long : Said

-- ---- words of a line

abbrev pub yes_or_no : Bool → List ℕ
yes_or_no true = codes "yes"
yes_or_no false = codes "no"

abbrev pub number_or_dash : Option ℕ → List ℕ
number_or_dash None = codes "-"
number_or_dash (Some n) = decimal n

abbrev pub lost_or_ok : Bool → List ℕ
lost_or_ok true = codes "lost"
lost_or_ok false = codes "ok"

abbrev pub arrival_name : Arrival → List ℕ
arrival_name arrivals.Taken = codes "ok"
arrival_name arrivals.Lost = codes "lost"
arrival_name arrivals.Over = codes "over"

abbrev pub meter_name : MeterKind → List ℕ
meter_name Peak = codes "peak"
meter_name Clipped = codes "clipped"
meter_name Sum = codes "sum"

-- bytes in hexadecimal, or a dash where there are none
abbrev pub hex_or_dash : List ℕ → List ℕ
hex_or_dash [] = codes "-"
hex_or_dash (b ∷ bytes) = encode_lower (b ∷ bytes)

abbrev pub offender_text : Bool → List ℕ
offender_text true = codes " interface "
offender_text false = codes " entity "

-- a space and a sample, for each
abbrev pub samples_text : List ℤ → List ℕ
samples_text samples = flat_map (λ s. codes " " ++ numeral s) samples

-- the line of a frame, of which the start tells the kind
abbrev pub frame_text : List ℕ → ℕ → List ℤ → List ℕ
frame_text start number samples = start ++ decimal number ++ samples_text samples ++ codes "\n"

-- a text, and then a stream's level and target and what the stream met, but for its reports
abbrev pub with_stream : List ℕ → ℕ → Option ℕ → StreamCounts → List ℕ
with_stream text level target met =
    text ++ codes " level " ++ decimal level ++ codes " target " ++ number_or_dash target ++ codes " under " ++ decimal met.under
    ++ codes " over " ++ decimal met.over ++ codes " lost " ++ decimal met.lost

-- ---- lines

abbrev pub outcome_text : TransferOutcome → List ℕ
outcome_text (gave bytes) = codes "c bytes " ++ hex_or_dash bytes ++ codes "\n"
outcome_text was_done = codes "c done\n"
outcome_text (transfer_was_stalled rule) = codes "c stall Q" ++ decimal rule ++ codes "\n"
outcome_text broke = codes "c broken\n"

abbrev pub sight_text : Sight → List ℕ
sight_text (element_has_value name value) = codes "h " ++ name ++ codes " " ++ numeral value ++ codes "\n"
sight_text (is_unknown name) = codes "h " ++ name ++ codes " unknown\n"
sight_text was_set = codes "h done\n"
sight_text (element_was_stalled rule) = codes "h stall Q" ++ decimal rule ++ codes "\n"
sight_text was_broken = codes "h broken\n"

-- a line's bytes, with the newline
unfoldable pub spelling_of : Said → List ℕ
spelling_of (says_ready entities streams domains) =
    codes "ready entities " ++ decimal entities ++ codes " streams " ++ decimal streams
    ++ codes " domains " ++ decimal domains ++ codes "\n"
spelling_of (says_microframe number) = codes "u " ++ decimal number ++ codes "\n"
spelling_of (says_out interface frames arrival) =
    codes "o " ++ decimal interface ++ codes " " ++ decimal frames ++ codes " " ++ arrival_name arrival ++ codes "\n"
spelling_of (says_in interface frames lost) =
    codes "i " ++ decimal interface ++ codes " " ++ decimal frames ++ codes " " ++ lost_or_ok lost ++ codes "\n"
spelling_of (says_frame interface samples) = frame_text (codes "r ") interface samples
spelling_of (says_played terminal samples) = frame_text (codes "p ") terminal samples
spelling_of (says_under interface) = codes "under " ++ decimal interface ++ codes "\n"
spelling_of (says_over interface) = codes "over " ++ decimal interface ++ codes "\n"
spelling_of (says_level interface level target) =
    codes "l " ++ decimal interface ++ codes " " ++ decimal level ++ codes " " ++ number_or_dash target ++ codes "\n"
spelling_of (says_feedback interface value lost) =
    codes "f " ++ decimal interface ++ codes " " ++ encode_lower (bytes_high_first 4 value) ++ codes " " ++ lost_or_ok lost ++ codes "\n"
spelling_of (says_answer outcome) = outcome_text outcome
spelling_of (says_view sight) = sight_text sight
spelling_of (says_time time) = codes "time " ++ decimal time ++ codes "\n"
spelling_of (says_steady steady) = codes "steady " ++ yes_or_no steady ++ codes "\n"
spelling_of (says_domain clock rate ticks) =
    codes "domain " ++ decimal clock ++ codes " rate " ++ number_or_dash rate ++ codes " ticks " ++ decimal ticks ++ codes "\n"
spelling_of (says_out_stream interface setting level target met) =
    with_stream (codes "stream " ++ decimal interface ++ codes " out setting " ++ decimal setting) level target met
    ++ codes " missed " ++ decimal met.missed ++ codes "\n"
spelling_of (says_in_stream interface setting level over lost) =
    codes "stream " ++ decimal interface ++ codes " in setting " ++ decimal setting ++ codes " level " ++ decimal level
    ++ codes " over " ++ decimal over ++ codes " lost " ++ decimal lost ++ codes "\n"
spelling_of (says_meter reading) = codes "meter " ++ meter_name reading.kind ++ codes " " ++ decimal reading.value ++ codes "\n"
spelling_of (says_renders count) = codes "renders " ++ decimal count ++ codes "\n"
spelling_of (says_misread rule number) = codes "script S" ++ decimal rule ++ codes " line " ++ decimal number ++ codes "\n"
spelling_of (says_refused rule place) = codes "descriptor G" ++ decimal rule ++ codes " at " ++ decimal place ++ codes "\n"
spelling_of (says_unsound rule interface offender) =
    codes "descriptor U" ++ decimal rule ++ offender_text interface ++ decimal offender ++ codes "\n"
spelling_of says_no_memory = codes "no memory\n"
spelling_of says_read_fault = codes "read fault\n"
spelling_of says_too_long = codes "input too long\n"
