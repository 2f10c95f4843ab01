-- Laws of the desk as a machine: no step is refused for want of memory, and an idle line does nothing.
use Rattle.std.specs.Prelude.{◌≡◌, ◌≢◌, ℕ, Bool, true, false, if◌then◌else◌, List, [], ◌∷◌, Option, None, Some, Result, Ok, Err, refl}
use Rattle.std.proofs.Common.{◌∙◌, ap}
use Rattle.uac_grammar_rules.specs.declared.faults.GrammarFault.{GrammarFault}
use Rattle.uac_grammar_rules.specs.Grammar.{first_fault}
use Rattle.uac_grammar.specs.Stop.{shown_fault}
use Rattle.uac_topology_rules.specs.declared.fault.TopologyFault.{TopologyFault}
use Rattle.uac_topology.specs.Topology.{first_fault_of}
use Rattle.uac_topology.specs.Description.{blocks_of, function_of}
use Rattle.uac_mixer.specs.MixerElements.{fits_element}
use Rattle.uac_mixer.specs.declared.element.Element.{Element}
use Rattle.uac_lines.specs.Words.{is_idle, words_of}
use Rattle.uac_script.specs.Phrase.{Phrase, nothing_line, bytes_line, go_line, control_line, get_line, set_line, show_line, break_line}
use Rattle.uac_script.specs.Phrase.{append_line, track_line, jack_line, deviate_line, microframes_line, detail_line, report_line}
use Rattle.uac_ends.specs.declared.fault.LineFault.TheVariants as faults
use Rattle.uac_runner.specs.Machine.{done, refused}
use Rattle.uac_status.specs.Panels.{PanelWorld, named_in, panel_start}
use Rattle.uac_status.specs.DeskPhrases.{DeskPhrase, desk_answer, desk_answer_of, follow_line, table_line, turn_line}
use Rattle.uac_status.specs.Desks.{DeskStep, DeskWorld, describing, fronted, desk_machine, desk_step, if_no_fault, if_sound, on_element}
use Rattle.uac_status.specs.Desks.{ready_line, said_step, silently, step_feed, step_go, step_table, step_table_early, unless}

-- a step isn't refused for want of memory
abbrev pub IsFreeStep : DeskStep → Type 0
IsFreeStep s = s ≢ refused faults.NoMemory

pub fed_free : (bytes : List ℕ) → IsFreeStep (step_feed bytes)
unfolding step_feed
fed_free bytes = by (shown_fault bytes) where
  by : (o : Option GrammarFault) → IsFreeStep (if_no_fault o (silently (describing bytes)))
  by None e = cc
  by (Some fault) e = cc

pub gone_free : (bytes : List ℕ) → IsFreeStep (step_go bytes)
unfolding step_go
gone_free bytes = by (first_fault bytes) (first_fault_of (blocks_of bytes)) where
  by : (f : Option GrammarFault) (t : Option TopologyFault)
      → IsFreeStep (if_no_fault f (if_sound t (done (fronted (panel_start (function_of (blocks_of bytes)))) (ready_line (function_of (blocks_of bytes)) ∷ []))))
  by None None e = cc
  by None (Some fault) e = cc
  by (Some fault) t e = cc

pub early_free : (bytes : List ℕ) (phrase : Phrase) → IsFreeStep (step_table_early bytes phrase)
early_free bytes nothing_line e = cc
early_free bytes (bytes_line more) e = fed_free _ e
early_free bytes go_line e = gone_free bytes e
early_free bytes (control_line setup sent) e = cc
early_free bytes (get_line name) e = cc
early_free bytes (set_line name value) e = cc
early_free bytes (show_line name) e = cc
early_free bytes (break_line after) e = cc
early_free bytes (append_line number samples) e = cc
early_free bytes (track_line number tone) e = cc
early_free bytes (jack_line terminal tone) e = cc
early_free bytes (deviate_line clock ppm) e = cc
early_free bytes (microframes_line count marks) e = cc
early_free bytes (detail_line level) e = cc
early_free bytes report_line e = cc

pub named_free : (o : Option Element) (step : Element → DeskStep) → ((x : Element) → IsFreeStep (step x)) → IsFreeStep (on_element o step)
named_free None step each e = cc
named_free (Some x) step each e = each x e

pub unless_free : (b : Bool) (rule : ℕ) (s : DeskStep) → IsFreeStep s → IsFreeStep (unless b rule s)
unless_free true rule s free e = free e
unless_free false rule s free e = cc

pub table_free : (w : PanelWorld) (phrase : Phrase) → IsFreeStep (step_table w phrase)
table_free w nothing_line e = cc
table_free w (bytes_line more) e = cc
table_free w go_line e = cc
table_free w (control_line setup sent) e = cc
table_free w (get_line name) e = named_free (named_in w name) _ (λ x f. cc) e
table_free w (set_line name value) e = named_free (named_in w name) _ (λ x. unless_free (fits_element x.kind value) 7 _ (λ f. cc)) e
table_free w (show_line name) e = named_free (named_in w name) _ (λ x f. cc) e
table_free w (break_line after) e = cc
table_free w (append_line number samples) e = cc
table_free w (track_line number tone) e = cc
table_free w (jack_line terminal tone) e = cc
table_free w (deviate_line clock ppm) e = cc
table_free w (microframes_line count marks) e = cc
table_free w (detail_line level) e = cc
table_free w report_line e = cc

pub step_free : (phrase : DeskPhrase) (w : DeskWorld) → IsFreeStep (desk_step phrase w)
unfolding desk_step
step_free (table_line phrase) (describing bytes) e = early_free bytes phrase e
step_free (turn_line name value) (describing bytes) e = cc
step_free follow_line (describing bytes) e = cc
step_free (table_line phrase) (fronted w) e = table_free w phrase e
step_free (turn_line name value) (fronted w) e = named_free (named_in w name) _ (λ x. unless_free (fits_element x.kind value) 7 _ (λ f. cc)) e
step_free follow_line (fronted w) e = cc

pub said_free : (said : Result DeskPhrase ℕ) (w : DeskWorld) → IsFreeStep (said_step said w)
said_free (Ok phrase) w e = step_free phrase w e
said_free (Err rule) w e = cc

pub desk_free : (text : List ℕ) (w : DeskWorld) → desk_machine.step text w ≢ refused faults.NoMemory
desk_free text w e = said_free (desk_answer text) w e

-- an idle line does nothing
pub nothing_done : (w : DeskWorld) → desk_step (table_line nothing_line) w ≡ done w []
unfolding desk_step
nothing_done (describing bytes) = refl
nothing_done (fronted w) = refl

pub idle_says : (text : List ℕ) → is_idle text ≡ true → desk_answer text ≡ Ok (table_line nothing_line)
unfolding desk_answer
idle_says text idle = ap (λ (b : Bool). if b then Ok (table_line nothing_line) else desk_answer_of (words_of text)) idle

pub desk_idle : (text : List ℕ) (w : DeskWorld) → is_idle text ≡ true → desk_machine.step text w ≡ done w []
desk_idle text w idle = ap (λ (r : Result DeskPhrase ℕ). said_step r w) (idle_says text idle) ∙ nothing_done w
