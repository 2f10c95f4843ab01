-- Steps of a desk's world, and what they are answered.
use Rattle.std.proofs.Common.{◌≡◌, ◌∙◌, refl, ap, sym, subst, ℕ, ◌<◌, length, Bool, true, false, List, slice_get, Option, None, Some, Result, Ok, Err, OnOk, IsErrAnd}
use Rattle.std.specs.Option.{option_and_then}
use Rattle.uac_grammar.specs.ReaderKept as reader
use Rattle.uac_mixer.specs.declared.element.Element.{Element}
use Rattle.uac_ends.specs.declared.fault.LineFault.{LineFault}
use Rattle.uac_ends.specs.declared.fault.LineFault.TheVariants as faults
use Rattle.uac_runner.specs.Machine.{done, refused}
use Rattle.uac_status.specs.Panels.{PanelWorld, named_in}
use Rattle.uac_status.specs.DeskPhrases.{DeskPhrase, follow_line, go_phrase, table_line, turn_line}
use Rattle.uac_script.specs.Phrase.{Phrase, nothing_line, bytes_line, go_line, control_line, get_line, set_line, show_line, break_line, append_line, track_line, jack_line, deviate_line, microframes_line, detail_line, report_line}
use Rattle.uac_status.specs.DeskLines.{is_end, is_end_line}
use Rattle.uac_status.specs.Desks.{DeskStep, DeskWorld, describing, fronted, breaks_rule, unless, on_element, desk_step, step_describing, step_go, step_fronted, wants_memory}
use Rattle.uac_status.specs.FrontKept.{Does, FrontAs, FrontFields, FrontStands, IsCut, IsDone, Stops}
use Rattle.uac_status.specs.DeskKept.{DeskFields, DeskStands, StageStands}
use Rattle.uac_status.specs.declared.desk.DeskStage.TheVariants as stages
use Rattle.uac_status.proofs.FrontLinkLemmas.{an_element_at}

-- the rule holds, and the step is made; or it is broken
pub unless_holds : (b : Bool) (rule : ℕ) (s : DeskStep) → b ≡ true → unless b rule s ≡ s
unless_holds true rule s e = refl
unless_holds false rule s e = absurd (cc)

pub unless_fails : (b : Bool) (rule : ℕ) (s : DeskStep) → b ≡ false → unless b rule s ≡ breaks_rule rule
unless_fails true rule s e = absurd (cc)
unless_fails false rule s e = refl

-- a write failed, and `?` handed that on
pub cut_handed_on : (s : DeskStep) (memory : Bool) (Holds : DeskWorld → Type 0) (written written' : Option (List ℕ)) (result : Result (Unit {0}) LineFault)
    → IsErrAnd result (λ fault. fault ≡ faults.WriteFault) → IsCut s written written' → Does s memory Holds written written' result
cut_handed_on s memory Holds written written' (Ok _) fails cut = absurd fails
cut_handed_on s memory Holds written written' (Err fault) fails cut = subst (λ (f : LineFault). Stops f memory s written written') (sym fails) cut

-- the element at the place that was found is the one that has the name
pub on_named : (P : DeskStep → Type 0) (w : PanelWorld) (name : List ℕ) (own : List Element) (at : ℕ) (step : Element → DeskStep) → own ≡ w.view.elements → at < length own
    → option_and_then (slice_get w.view.elements) (Some at) ≡ named_in w name
    → ((x : Element) → slice_get own at ≡ Some x → slice_get w.view.elements at ≡ Some x → P (step x)) → P (on_element (named_in w name) step)
on_named P w name own at step same below found holds =
    let e = an_element_at own at below in
    let there : slice_get w.view.elements at ≡ Some e.0 = subst (λ (xs : List Element). slice_get xs at ≡ Some e.0) same e.1 in
    subst (λ (o : Option Element). P (on_element o step)) (sym there ∙ found) (holds e.0 e.1 there)

-- ---- a line in each stage

-- a step that was done leaves a desk that stands for the next world, where it keeps no fault
pub answered : (s : DeskStep) (memory : Bool) (desk : DeskFields) (written written' : Option (List ℕ)) (result : Result (Unit {0}) LineFault)
    → OnOk result (desk.fault ≡ None) → Does s memory (StageStands desk.stage) written written' result → Does s memory (DeskStands desk) written written' result
answered (done next lines) memory desk written written' (Ok _) none does = (record { going = none; stage = does.0 }, does.1)
answered (refused fault) memory desk written written' (Ok _) none does = absurd does
answered s memory desk written written' (Err fault) none does = does

-- the descriptor's end, of a reader that was taken out
pub begun_in : (r whole : reader.ReaderFields) (front : FrontFields) (w : DeskWorld) (written written' : Option (List ℕ))
    → whole ≡ r → StageStands (stages.Describing r) w → IsDone (step_go whole.taken) (FrontAs front) written written'
    → IsDone (desk_step go_phrase w) (StageStands (stages.Running front)) written written'
unfolding desk_step
begun_in r whole front (describing bytes) written written' same s begins =
    subst (λ (bs : List ℕ). IsDone (step_go bs) (FrontAs front) written written') (ap (λ (x : reader.ReaderFields). x.taken) same ∙ s.0) begins
begun_in r whole front (fronted world) written written' same s begins = absurd s

pub unbegun_in : (r whole : reader.ReaderFields) (fault : LineFault) (w : DeskWorld) (written written' : Option (List ℕ))
    → whole ≡ r → StageStands (stages.Describing r) w → Stops fault true (step_go whole.taken) written written'
    → Stops fault (wants_memory go_phrase w) (desk_step go_phrase w) written written'
unfolding desk_step
unbegun_in r whole fault (describing bytes) written written' same s stops =
    subst (λ (bs : List ℕ). Stops fault true (step_go bs) written written') (ap (λ (x : reader.ReaderFields). x.taken) same ∙ s.0) stops
unbegun_in r whole fault (fronted world) written written' same s stops = absurd s

-- the descriptor's end once more
pub gone_before : (front : FrontFields) (w : DeskWorld) → StageStands (stages.Running front) w → desk_step go_phrase w ≡ breaks_rule 5
unfolding desk_step
gone_before front (describing bytes) s = absurd s
gone_before front (fronted w) s = refl

-- a line of the device
pub played_in : (front front' : FrontFields) (phrase : DeskPhrase) (w : DeskWorld) (written written' : Option (List ℕ)) (result : Result (Unit {0}) LineFault)
    → StageStands (stages.Running front) w
    → ((world : PanelWorld) → FrontStands front world → Does (step_fronted world phrase) (wants_memory phrase (fronted world)) (FrontAs front') written written' result)
    → Does (desk_step phrase w) (wants_memory phrase w) (StageStands (stages.Running front')) written written' result
unfolding desk_step
played_in front front' phrase (describing bytes) written written' result s does = absurd s
played_in front front' phrase (fronted world) written written' result s does = does world s

-- a line before the descriptor's end
pub described_in : (r r' : reader.ReaderFields) (phrase : DeskPhrase) (w : DeskWorld) (written : Option (List ℕ)) (result : Result (Unit {0}) LineFault)
    → StageStands (stages.Describing r) w
    → (r.stop ≡ None → (old : Option (List ℕ)) → Does (step_describing r.taken phrase) (wants_memory phrase (describing r.taken)) (StageStands (stages.Describing r')) old old result)
    → Does (desk_step phrase w) (wants_memory phrase w) (StageStands (stages.Describing r')) written written result
unfolding desk_step
described_in r r' phrase (describing bytes) written result s does =
    subst (λ (bs : List ℕ). Does (step_describing bs phrase) (wants_memory phrase (describing bs)) (StageStands (stages.Describing r')) written written result) s.0 (does s.1 written)
described_in r r' phrase (fronted world) written result s does = absurd s

-- the descriptor's end is one line alone
line_is_end : (phrase : Phrase) → is_end_line phrase ≡ true → phrase ≡ go_line
line_is_end nothing_line is = absurd (cc)
line_is_end (bytes_line bytes) is = absurd (cc)
line_is_end go_line is = refl
line_is_end (control_line setup sent) is = absurd (cc)
line_is_end (get_line name) is = absurd (cc)
line_is_end (set_line name value) is = absurd (cc)
line_is_end (show_line name) is = absurd (cc)
line_is_end (break_line later) is = absurd (cc)
line_is_end (append_line number samples) is = absurd (cc)
line_is_end (track_line number tone) is = absurd (cc)
line_is_end (jack_line terminal tone) is = absurd (cc)
line_is_end (deviate_line clock ppm) is = absurd (cc)
line_is_end (microframes_line count marks) is = absurd (cc)
line_is_end (detail_line level) is = absurd (cc)
line_is_end report_line is = absurd (cc)

pub phrase_is_end : (phrase : DeskPhrase) → is_end phrase ≡ true → phrase ≡ go_phrase
phrase_is_end (table_line phrase) is = ap (λ (p : Phrase). table_line p) (line_is_end phrase is)
phrase_is_end (turn_line name value) is = absurd (cc)
phrase_is_end follow_line is = absurd (cc)
