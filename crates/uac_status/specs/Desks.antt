-- A device with a front panel under a script, and what each line makes of it (profile).
use Rattle.std.specs.Prelude.{ℕ, Bool, true, false, List, [], ◌∷◌, ◌++◌, length, Option, None, Some, Result, Ok, Err}
use Rattle.uac_grammar_rules.specs.declared.faults.GrammarFault.{GrammarFault}
use Rattle.uac_grammar_rules.specs.Grammar.{first_fault}
use Rattle.uac_grammar.specs.Stop.{shown_fault}
use Rattle.uac_topology_rules.specs.declared.fault.TopologyFault.{TopologyFault}
use Rattle.uac_topology.specs.Function.{FunctionFields}
use Rattle.uac_topology.specs.Topology.{first_fault_of}
use Rattle.uac_topology.specs.Description.{blocks_of, function_of}
use Rattle.uac_mixer.specs.MixerElements.{fits_element}
use Rattle.uac_mixer.specs.declared.element.Element.{Element}
use Rattle.uac_script.specs.Phrase.{Phrase, nothing_line, bytes_line, go_line, control_line, get_line, set_line, show_line, break_line}
use Rattle.uac_script.specs.Phrase.{append_line, track_line, jack_line, deviate_line, microframes_line, detail_line, report_line}
use Rattle.uac_transcript.specs.Transcript.{says_ready, says_view}
use Rattle.uac_ends.specs.declared.fault.LineFault.TheVariants as faults
use Rattle.uac_runner.specs.Machine.{Machine, Step, done, refused}
use Rattle.uac_status.specs.Panels.{PanelWorld, all_followed, named_in, panel_breaking, panel_got, panel_outcome, panel_set, panel_start}
use Rattle.uac_status.specs.Panels.{turned}
use Rattle.uac_status.specs.PanelLines.{PanelLine, says_knob, says_line, following_told, got_sight, panel_spelling, shown_sight, was_set_sight}
use Rattle.uac_status.specs.DeskPhrases.{DeskPhrase, desk_answer, follow_line, table_line, turn_line}

-- before the descriptor's end: its bytes so far; and from there on the device with its panel
pub data DeskWorld : Type 0 where
  describing : List ℕ → DeskWorld
  fronted : PanelWorld → DeskWorld

-- no line was done yet
abbrev pub desk_start : DeskWorld
desk_start = describing []

abbrev pub DeskStep : Type 0
DeskStep = Step DeskWorld PanelLine

-- a line that breaks this rule of the script
abbrev pub breaks_rule : ℕ → DeskStep
breaks_rule rule = refused (faults.Script rule)

-- a step that breaks the rule unless the condition holds
abbrev pub unless : Bool → ℕ → DeskStep → DeskStep
unless true rule step = step
unless false rule step = breaks_rule rule

-- a line that says nothing
abbrev pub silently : DeskWorld → DeskStep
silently w = done w []

abbrev pub if_no_fault : Option GrammarFault → DeskStep → DeskStep
if_no_fault None step = step
if_no_fault (Some fault) step = refused (faults.Grammar fault)

abbrev pub if_sound : Option TopologyFault → DeskStep → DeskStep
if_sound None step = step
if_sound (Some fault) step = refused (faults.Topology fault)

-- ---- before the descriptor's end

-- more bytes: the first fault that the bytes show is refused
unfoldable pub step_feed : List ℕ → DeskStep
step_feed bytes = if_no_fault (shown_fault bytes) (silently (describing bytes))

-- the line of the descriptor's end
abbrev pub ready_line : FunctionFields → PanelLine
ready_line function = says_line (says_ready (length function.entities) (length function.streams) (length function.domains))

-- the descriptor's end: its bytes are to be a descriptor, and its function sound
unfoldable pub step_go : List ℕ → DeskStep
step_go bytes =
    let function = function_of (blocks_of bytes) in
    if_no_fault (first_fault bytes)
    (if_sound (first_fault_of (blocks_of bytes)) (done (fronted (panel_start function)) (ready_line function ∷ [])))

abbrev pub step_table_early : List ℕ → Phrase → DeskStep
step_table_early bytes nothing_line = silently (describing bytes)
step_table_early bytes (bytes_line more) = step_feed (bytes ++ more)
step_table_early bytes go_line = step_go bytes
step_table_early bytes (control_line setup sent) = breaks_rule 5
step_table_early bytes (get_line name) = breaks_rule 5
step_table_early bytes (set_line name value) = breaks_rule 5
step_table_early bytes (show_line name) = breaks_rule 5
step_table_early bytes (break_line after) = breaks_rule 5
step_table_early bytes (append_line number samples) = breaks_rule 5
step_table_early bytes (track_line number tone) = breaks_rule 5
step_table_early bytes (jack_line terminal tone) = breaks_rule 5
step_table_early bytes (deviate_line domain ppm) = breaks_rule 5
step_table_early bytes (microframes_line count marks) = breaks_rule 5
step_table_early bytes (detail_line level) = breaks_rule 5
step_table_early bytes report_line = breaks_rule 5

abbrev pub step_describing : List ℕ → DeskPhrase → DeskStep
step_describing bytes (table_line phrase) = step_table_early bytes phrase
step_describing bytes (turn_line name value) = breaks_rule 5
step_describing bytes follow_line = breaks_rule 5

-- ---- from there on

-- what a line makes of the element that it names; there is to be one
abbrev pub on_element : Option Element → (Element → DeskStep) → DeskStep
on_element None step = breaks_rule 6
on_element (Some x) step = step x

-- a line of the table: those that this command hasn't got break S5
abbrev pub step_table : PanelWorld → Phrase → DeskStep
step_table w nothing_line = silently (fronted w)
step_table w (bytes_line more) = breaks_rule 5
step_table w go_line = breaks_rule 5
step_table w (control_line setup sent) = breaks_rule 5
step_table w (get_line name) = on_element (named_in w name) (λ x. done (fronted (panel_got x w)) (says_line (says_view (got_sight x w)) ∷ []))
step_table w (set_line name value) =
    on_element (named_in w name)
    (λ x. unless (fits_element x.kind value) 7 (done (fronted (panel_set x value w)) (says_line (says_view (was_set_sight x value w)) ∷ [])))
step_table w (show_line name) = on_element (named_in w name) (λ x. done (fronted w) (says_line (says_view (shown_sight x x.value)) ∷ []))
step_table w (break_line after) = silently (fronted (panel_breaking after w))
step_table w (append_line number samples) = breaks_rule 5
step_table w (track_line number tone) = breaks_rule 5
step_table w (jack_line terminal tone) = breaks_rule 5
step_table w (deviate_line domain ppm) = breaks_rule 5
step_table w (microframes_line count marks) = breaks_rule 5
step_table w (detail_line level) = breaks_rule 5
step_table w report_line = breaks_rule 5

abbrev pub step_fronted : PanelWorld → DeskPhrase → DeskStep
step_fronted w (table_line phrase) = step_table w phrase
step_fronted w (turn_line name value) =
    on_element (named_in w name)
    (λ x. unless (fits_element x.kind value) 7
    (done (fronted (turned x.key value w)) (says_knob (panel_outcome x.key value w) ∷ [])))
step_fronted w follow_line = done (fronted (all_followed w.pending w)) (following_told w.pending w)

-- what a line makes of a world
unfoldable pub desk_step : DeskPhrase → DeskWorld → DeskStep
desk_step phrase (describing bytes) = step_describing bytes phrase
desk_step phrase (fronted w) = step_fronted w phrase

-- what a text makes of it, which says a phrase or breaks a rule of spelling
abbrev pub said_step : Result DeskPhrase ℕ → DeskWorld → DeskStep
said_step (Ok phrase) w = desk_step phrase w
said_step (Err rule) w = breaks_rule rule

-- the rule that the script's end breaks: a descriptor's end is to have come
abbrev pub desk_finish : DeskWorld → Option ℕ
desk_finish (describing bytes) = Some 8
desk_finish (fronted w) = None

-- ---- where memory may be wanted

-- before the descriptor's end for its lines, and after it for a knob alone
abbrev pub early_memory : Phrase → Bool
early_memory nothing_line = false
early_memory (bytes_line bytes) = true
early_memory go_line = true
early_memory (control_line setup sent) = false
early_memory (get_line name) = false
early_memory (set_line name value) = false
early_memory (show_line name) = false
early_memory (break_line after) = false
early_memory (append_line number samples) = false
early_memory (track_line number tone) = false
early_memory (jack_line terminal tone) = false
early_memory (deviate_line domain ppm) = false
early_memory (microframes_line count marks) = false
early_memory (detail_line level) = false
early_memory report_line = false

abbrev pub wants_memory : DeskPhrase → DeskWorld → Bool
wants_memory (table_line phrase) (describing bytes) = early_memory phrase
wants_memory (turn_line name value) (describing bytes) = false
wants_memory follow_line (describing bytes) = false
wants_memory (table_line phrase) (fronted w) = false
wants_memory (turn_line name value) (fronted w) = true
wants_memory follow_line (fronted w) = false

abbrev pub said_wants : Result DeskPhrase ℕ → DeskWorld → Bool
said_wants (Ok phrase) w = wants_memory phrase w
said_wants (Err rule) w = false

-- the desk as a machine that does lines, each by what its text says
abbrev pub desk_machine_by : (List ℕ → Result DeskPhrase ℕ) → Machine DeskWorld PanelLine
desk_machine_by says =
    record { step = λ text w. said_step (says text) w; finish = desk_finish; wants = λ text w. said_wants (says text) w; spell = panel_spelling }

abbrev pub desk_machine : Machine DeskWorld PanelLine
desk_machine = desk_machine_by desk_answer
