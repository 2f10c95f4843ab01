-- What each line keeps of a desk's world.
use Rattle.std.proofs.Common.{◌≡◌, ◌∙◌, refl, ap, sym, subst, ℕ, zero, suc, ◌⊎◌, Bool, true, false, if◌then◌else◌, unwrap_or, pos, List, [], ◌∷◌, ◌++◌, slice_index_or, Option, None, Some, is_some, IfSome, Result, Ok, Err, inl, inr, Contains, arith}
use Rattle.std.specs.List.{AllByRecursion}
use Rattle.std.specs.Option.{option_map_or}
use Rattle.std.specs.Result.{result_ok}
use Rattle.std.specs.Str.{bytes_eq}
use Rattle.hex.specs.Hex.{decode_of}
use Rattle.hex.proofs.HexLemmas.{decode_of-ok}
use Rattle.uac_descriptor.specs.BlockParsing.{AreBytes}
use Rattle.uac_descriptor.specs.WellFormed.{AreWellFormed}
use Rattle.uac_descriptor.specs.declared.block.Block as block
use Rattle.uac_grammar_rules.specs.Grammar.{first_fault}
use Rattle.uac_grammar_rules.specs.Sentence.{spellings}
use Rattle.uac_grammar_rules.specs.declared.faults.GrammarFault.{GrammarFault}
use Rattle.uac_grammar_rules.proofs.SentenceLemmas.{none_sentence, spelt_bytes}
use Rattle.uac_grammar_rules.proofs.SentenceWellFormedLemmas.{sentence_is_well_formed}
use Rattle.uac_topology_rules.specs.declared.fault.TopologyFault.{TopologyFault}
use Rattle.uac_topology.specs.Function.{FunctionFields}
use Rattle.uac_topology.specs.Topology.{IsSoundFunction, first_fault_of}
use Rattle.uac_grammar.specs.Stop.{shown_fault}
use Rattle.uac_topology.specs.Description.{blocks_of, function_of}
use Rattle.uac_topology.proofs.DescriptionLemmas.{blocks_of_sentence}
use Rattle.uac_request.specs.Requests.{value_bytes}
use Rattle.uac_mixer.specs.MixerElements.{fits_element, name_of, width_of}
use Rattle.uac_mixer.specs.ViewTransfers.{get_of, set_of}
use Rattle.uac_mixer.specs.declared.element.Element.{Element}
use Rattle.uac_mixer.specs.declared.link.When.{When}
use Rattle.uac_lines.specs.Words.{Word, hex_of, is_idle, words_of}
use Rattle.uac_script.specs.Phrase.{Phrase, nothing_line, bytes_line, go_line, control_line, get_line, set_line, show_line, break_line, append_line, track_line, jack_line, deviate_line, microframes_line, detail_line, report_line}
use Rattle.uac_script.specs.Line.{IsRow}
use Rattle.uac_runner.specs.Machine.{After, after, and_then, done, refused}
use Rattle.uac_runner.proofs.ScriptLemmas.{transcript_same}
use Rattle.uac_store.specs.declared.keys.Key.{Key}
use Rattle.uac_store.specs.Keyed.{value_of}
use Rattle.uac_transcript.specs.Transcript.{element_has_value, says_view, was_broken}
use Rattle.uac_status.specs.Messages.{element_keyed, message_of}
use Rattle.uac_status.specs.Knobs.{is_pending}
use Rattle.uac_status.specs.Panels.{PanelWorld, panel_start, named_in, followed, goes_on, all_followed}
use Rattle.uac_status.specs.PanelLaws.{IsAllKnown, IsKeyShown, IsPanel}
use Rattle.uac_status.specs.PanelLines.{PanelLine, all_told, following_told, got_sight, says_line, says_message}
use Rattle.uac_status.specs.DeskPhrases.{DeskPhrase, DeskSays, follow_line, table_line, turn_line}
use Rattle.uac_status.specs.Desks.{DeskStep, DeskWorld, describing, fronted, desk_machine_by, desk_start, desk_step, if_no_fault, if_sound, on_element, ready_line, said_step, silently, step_feed, step_go, step_table, step_table_early, unless}
use Rattle.uac_status.specs.DeskLaws.{AreByPanelTable, IsAgreedIn, IsAllKnownIn, MessagesTellAllInLines, PanelHasOneTranscript, PanelLinesAgree, PanelSayings, broken_line, world_after}
use Rattle.uac_status.proofs.DeskPhraseLemmas.{desk_says_once}
use Rattle.uac_status.proofs.PanelLemmas.{IsShown, all_keep, break_keeps, messages_tell_all, shown_all, transfer_keeps, turned_keeps}
use Rattle.uac_status.proofs.PendingLemmas.{found_in}
use Rattle.uac_status.proofs.StartLemmas.{starts_so}

-- ---- what lines feed

hex_bytes : (word : Word) (bytes : List ℕ) → hex_of word ≡ Some bytes → AreBytes bytes
hex_bytes [] bytes is = absurd (cc)
hex_bytes (digit ∷ digits) bytes is = by (decode_of (digit ∷ digits)) refl is
  where
    by : (d : Result (List ℕ) _) → decode_of (digit ∷ digits) ≡ d → result_ok d ≡ Some bytes → AreBytes bytes
    by (Ok found) from same = subst AreBytes (let e : found ≡ bytes = cc in e) (decode_of-ok (digit ∷ digits) found from).3
    by (Err e) from same = absurd (cc)

feeds_bytes : (text bytes : List ℕ) → DeskSays text (Ok (table_line (bytes_line bytes))) → AreBytes bytes
feeds_bytes text bytes said = by said.0
  where
    by : ((is_idle text ≡ true) × (bytes_line bytes ≡ nothing_line)) ⊎ IsRow (words_of text) (bytes_line bytes) → AreBytes bytes
    by (inl (still, same)) = absurd (cc)
    by (inr (digits, words, read)) = hex_bytes digits bytes read

appended_bytes : (xs ys : List ℕ) → AreBytes xs → AreBytes ys → AreBytes (xs ++ ys)
appended_bytes [] ys front back i = back i
appended_bytes (x ∷ xs) ys front back zero = front zero
appended_bytes (x ∷ xs) ys front back (suc i) = appended_bytes xs ys (λ k. front (suc k)) back i

-- the panel of the function that bytes without a fault describe
described : (bytes : List ℕ) → AreBytes bytes → first_fault bytes ≡ None → first_fault_of (blocks_of bytes) ≡ None
    → IsPanel (panel_start (function_of (blocks_of bytes)))
unfolding function_of
described bytes are whole sound =
    let sentence = none_sentence bytes are whole in
    let blocks : List block.Block = sentence.0 in
    let same : blocks_of bytes ≡ blocks = blocks_of_sentence bytes blocks sentence.1 in
    let read : List block.Block = blocks_of bytes in
    let good : IsSoundFunction (function_of (blocks_of bytes)) = (
      read,
      sound,
      record { entities = refl; domains = refl; streams = refl; control_interface = refl; total = refl },
      subst AreWellFormed (sym same) (sentence_is_well_formed bytes blocks sentence.1),
    ) in
    starts_so (function_of (blocks_of bytes)) good (subst (λ (bs : List block.Block). AreBytes (spellings bs)) (sym same) (spelt_bytes bytes blocks sentence.1))

-- ---- what is kept

-- before the descriptor's end its bytes are bytes, and from there on there is a panel
pub IsKept : DeskWorld → Type 0
IsKept (describing bytes) = AreBytes bytes
IsKept (fronted w) = IsPanel w

-- a step keeps that, where it is done
Keeps : DeskStep → Type 0
Keeps (done next lines) = IsKept next
Keeps (refused fault) = Unit {0}

fed_keeps : (bytes : List ℕ) → AreBytes bytes → Keeps (step_feed bytes)
unfolding Keeps IsKept step_feed
fed_keeps bytes are = by (shown_fault bytes) where
  by : (o : Option GrammarFault) → Keeps (if_no_fault o (silently (describing bytes)))
  by None = are
  by (Some fault) = tt

gone_keeps : (bytes : List ℕ) → AreBytes bytes → Keeps (step_go bytes)
unfolding Keeps IsKept step_go
gone_keeps bytes are = by (first_fault bytes) refl (first_fault_of (blocks_of bytes)) refl where
  function : FunctionFields
  function = function_of (blocks_of bytes)

  by : (f : Option GrammarFault) → first_fault bytes ≡ f → (b : Option TopologyFault) → first_fault_of (blocks_of bytes) ≡ b
      → Keeps (if_no_fault f (if_sound b (done (fronted (panel_start function)) (ready_line function ∷ []))))
  by None whole None sound = described bytes are whole sound
  by None whole (Some fault) broken = tt
  by (Some fault) at b is = tt

early_keeps : (bytes : List ℕ) (phrase : Phrase) → AreBytes bytes → ((more : List ℕ) → phrase ≡ bytes_line more → AreBytes more) → Keeps (step_table_early bytes phrase)
unfolding Keeps IsKept
early_keeps bytes nothing_line are feeds = are
early_keeps bytes (bytes_line more) are feeds = fed_keeps (bytes ++ more) (appended_bytes bytes more are (feeds more refl))
early_keeps bytes go_line are feeds = gone_keeps bytes are
early_keeps bytes (control_line setup sent) are feeds = tt
early_keeps bytes (get_line name) are feeds = tt
early_keeps bytes (set_line name value) are feeds = tt
early_keeps bytes (show_line name) are feeds = tt
early_keeps bytes (break_line later) are feeds = tt
early_keeps bytes (append_line number samples) are feeds = tt
early_keeps bytes (track_line number tone) are feeds = tt
early_keeps bytes (jack_line terminal tone) are feeds = tt
early_keeps bytes (deviate_line clock ppm) are feeds = tt
early_keeps bytes (microframes_line count marks) are feeds = tt
early_keeps bytes (detail_line level) are feeds = tt
early_keeps bytes report_line are feeds = tt

-- a line that names an element
named_keeps : (w : PanelWorld) (name : List ℕ) (step : Element → DeskStep) → IsPanel w → ((x : Element) → IsShown w x → Keeps (step x)) → Keeps (on_element (named_in w name) step)
unfolding Keeps named_in
named_keeps w name step good each = by (named_in w name) (found_in (IsShown w) _ w.view.elements (shown_all w good)) where
  by : (o : Option Element) → IfSome o (λ x. IsShown w x × (bytes_eq (name_of x) name ≡ true)) → Keeps (on_element o step)
  by None found = tt
  by (Some x) found = each x found.0

unless_keeps : (b : Bool) (step : DeskStep) → (b ≡ true → Keeps step) → Keeps (unless b 7 step)
unfolding Keeps
unless_keeps true step holds = holds refl
unless_keeps false step holds = tt

table_keeps : (w : PanelWorld) (phrase : Phrase) → IsPanel w → Keeps (step_table w phrase)
unfolding Keeps IsKept
table_keeps w nothing_line good = good
table_keeps w (bytes_line more) good = tt
table_keeps w go_line good = tt
table_keeps w (control_line setup sent) good = tt
table_keeps w (get_line name) good = named_keeps w name _ good (λ x shown. transfer_keeps w (get_of w.function.control_interface x) [] good)
table_keeps w (set_line name value) good =
    named_keeps w name _ good
    (λ x shown. unless_keeps (fits_element x.kind value) _ (λ fits. transfer_keeps w (set_of w.function.control_interface x) (value_bytes (width_of x.kind) value) good))
table_keeps w (show_line name) good = named_keeps w name _ good (λ x shown. good)
table_keeps w (break_line later) good = break_keeps later w good
table_keeps w (append_line number samples) good = tt
table_keeps w (track_line number tone) good = tt
table_keeps w (jack_line terminal tone) good = tt
table_keeps w (deviate_line clock ppm) good = tt
table_keeps w (microframes_line count marks) good = tt
table_keeps w (detail_line level) good = tt
table_keeps w report_line good = tt

step_keeps : (phrase : DeskPhrase) (w : DeskWorld) → IsKept w → ((more : List ℕ) → phrase ≡ table_line (bytes_line more) → AreBytes more) → Keeps (desk_step phrase w)
unfolding Keeps IsKept desk_step
step_keeps (table_line phrase) (describing bytes) kept feeds = early_keeps bytes phrase kept (λ more same. feeds more (ap table_line same))
step_keeps (turn_line name value) (describing bytes) kept feeds = tt
step_keeps follow_line (describing bytes) kept feeds = tt
step_keeps (table_line phrase) (fronted w) kept feeds = table_keeps w phrase kept
step_keeps (turn_line name value) (fronted w) kept feeds =
    named_keeps w name _ kept (λ x shown. unless_keeps (fits_element x.kind value) _ (λ fits. turned_keeps x value w shown fits kept))
step_keeps follow_line (fronted w) kept feeds = all_keep w.pending w refl kept

text_keeps : (says : PanelSayings) (text : List ℕ) (w : DeskWorld) → DeskSays text (says text) → IsKept w → Keeps ((desk_machine_by says).step text w)
unfolding Keeps
text_keeps says text w said kept = by (says text) said where
  by : (r : Result DeskPhrase ℕ) → DeskSays text r → Keeps (said_step r w)
  by (Ok phrase) is = step_keeps phrase w kept (λ more same. feeds_bytes text more (subst (λ (p : DeskPhrase). DeskSays text (Ok p)) same is))
  by (Err rule) is = tt

then_keeps : (s : DeskStep) (w : DeskWorld) (go : DeskWorld → After DeskWorld PanelLine) → IsKept w → Keeps s → ((next : DeskWorld) → IsKept next → IsKept (go next).world)
    → IsKept (and_then s w go).world
unfolding Keeps
then_keeps (done next lines) w go kept keeps rest = rest next keeps
then_keeps (refused fault) w go kept keeps rest = kept

lines_keep : (says : PanelSayings) → AreByPanelTable says → (texts : List (List ℕ)) (w : DeskWorld) → IsKept w
    → IsKept (after (desk_machine_by says).step texts w).world
unfolding after
lines_keep says table [] w kept = kept
lines_keep says table (text ∷ texts) w kept =
    then_keeps ((desk_machine_by says).step text w) w (after (desk_machine_by says).step texts) kept (text_keeps says text w (table text) kept)
    (λ next good. lines_keep says table texts next good)

no_bytes : AreBytes []
no_bytes i = omega arith

kept_after : (says : PanelSayings) → AreByPanelTable says → (texts : List (List ℕ)) → IsKept (world_after says texts)
unfolding IsKept
kept_after says table texts = lines_keep says table texts desk_start no_bytes

-- ---- the laws

agreed_in : (w : DeskWorld) → IsKept w → IsAgreedIn w
unfolding IsKept
agreed_in (describing bytes) kept = tt
agreed_in (fronted w) kept = kept.agreed

pub lines_agree : PanelLinesAgree
lines_agree says texts table front rest parts = agreed_in (world_after says front) (kept_after says table front)

-- where a break is pending and a message waits, its line is printed
second_line : (a : PanelLine) (rest : List PanelLine) → Contains (a ∷ broken_line ∷ rest) broken_line
second_line a rest = (1, omega arith, refl)

broke_told : (w : PanelWorld) (k : Key) (later : List Key) (x : Element) → element_keyed w.view.elements k ≡ Some x → is_some w.breaks ≡ true
    → Contains (following_told (k ∷ later) w) broken_line
unfolding all_told
broke_told w k later x keyed broke =
    let first : PanelLine = says_message (message_of w.function.control_interface k) in
    let rest : Element → List PanelLine = λ y. goes_on (is_some w.breaks) [] (all_told later (followed y later w)) in
    let lines : all_told (k ∷ later) w ≡ first ∷ broken_line ∷ rest x =
    ap (λ (o : Option Element). option_map_or (λ y. first ∷ says_line (says_view (got_sight y w)) ∷ rest y) o []) keyed
    ∙ ap (λ (b : Bool). first ∷ says_line (says_view (if b then was_broken else element_has_value (name_of x) (unwrap_or (value_of w.controls x.key) (pos 0)))) ∷ rest x) broke in
    subst (λ (ls : List PanelLine). Contains ls broken_line) (sym lines) (second_line first (rest x))

first_shown : (w : PanelWorld) (k : Key) (later : List Key) → w.pending ≡ k ∷ later → IsPanel w → (x : Element) × (element_keyed w.view.elements k ≡ Some x)
first_shown w k later is good = by (element_keyed w.view.elements k) (subst (AllByRecursion (IsKeyShown w.view.elements)) is good.shown).0 where
  by : (o : Option Element) → is_some o ≡ true → (x : Element) × (o ≡ Some x)
  by None none = absurd (cc)
  by (Some x) some = (x, refl)

tells_all_by : (w : PanelWorld) (ks : List Key) (o : Option When) → w.pending ≡ ks → w.breaks ≡ o → IsPanel w → (Contains (following_told ks w) broken_line → ⊥)
    → IsAllKnown (all_followed w.pending w)
unfolding all_followed
tells_all_by w [] o is breaks good none =
    subst (λ (ks : List Key). IsAllKnown (all_followed ks w)) (sym is)
    (record { none = is; agreed = λ k d within. good.agreed k d within (ap (λ (ks : List Key). is_pending ks (slice_index_or w.view.elements k d).key) is) })
tells_all_by w (k ∷ later) None is breaks good none = messages_tell_all w good breaks
tells_all_by w (k ∷ later) (Some at) is breaks good none =
    let shown = first_shown w k later is good in
    absurd (none (broke_told w k later shown.0 shown.1 (ap is_some breaks)))

-- `n` in a world
follow_tells : (w next : DeskWorld) (lines : List PanelLine) → IsKept w → desk_step follow_line w ≡ done next lines → ¬ Contains lines broken_line
    → IsAllKnownIn next
unfolding IsKept desk_step
follow_tells (describing bytes) next lines kept is none = absurd (cc)
follow_tells (fronted w) next lines kept is none =
    let world : fronted (all_followed w.pending w) ≡ next = cc in
    let told : following_told w.pending w ≡ lines = cc in
    subst IsAllKnownIn world
    (tells_all_by w w.pending w.breaks refl refl kept (λ has. none (subst (λ (ls : List PanelLine). Contains ls broken_line) told has)))

pub messages_tell : MessagesTellAllInLines
messages_tell says texts table front rest text next lines parts says_n is none =
    follow_tells (world_after says front) next lines (kept_after says table front)
    (sym (ap (λ (r : Result DeskPhrase ℕ). said_step r (world_after says front)) says_n) ∙ is) none

-- ---- one transcript

pub panel_transcript : PanelHasOneTranscript
panel_transcript says says' table table' w taken end =
    transcript_same (desk_machine_by says) (desk_machine_by says')
    (λ text v. ap (λ (said : Result DeskPhrase ℕ). said_step said v)
    ((desk_says_once text).no_other (says text) (table text) ∙ sym ((desk_says_once text).no_other (says' text) (table' text))))
    (λ v. refl) w taken end
