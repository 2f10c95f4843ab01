-- The bus's steps are a machine's, and its lines come to what they say does.
use Rattle.std.proofs.Common.{◌≡◌, ◌≢◌, ◌∙◌, ap, refl, sym, subst, ℕ, ◌+◌, ◌-◌, ◌≤◌, true, List, [], ◌∷◌, ◌++◌, length, map, None, Result}
use Rattle.std.specs.List.{AllByRecursion, AllZip}
use Rattle.uac_edges.specs.TextLines.{with_newlines}
use Rattle.uac_lines.specs.ScriptLines.{most_of_input}
use Rattle.uac_script.specs.Line.{Says}
use Rattle.uac_script.specs.LineParsing.{answer}
use Rattle.uac_script.specs.Phrase.{Phrase}
use Rattle.uac_script.proofs.LineParsingLemmas.{answer_says, says_only}
use Rattle.uac_script.proofs.SayingLemmas.{each_says_once}
use Rattle.uac_units.specs.Hearing.{Reading}
use Rattle.uac_rows.specs.BusWorld.{BusWorld, start}
use Rattle.uac_rows.specs.BusWorld as bus
use Rattle.uac_rows.specs.After as bus_after
use Rattle.uac_rows.specs.After.{said_step}
use Rattle.uac_promises.proofs.ScriptsStartLemmas.{feeds_bytes}
use Rattle.uac_promises.specs.Promises.{IsAsPromised, IsOfBytes}
use Rattle.uac_promises.proofs.PromisesLemmas.{all_scripts_keep_promises}
use Rattle.uac_promises.proofs.PromisesBegunLemmas.{lines_begin_as_promised}
use Rattle.uac_promises.proofs.PrintedTextLemmas.{texts_are_read_back}
use Rattle.uac_transcript.specs.Spellings.{IsReadBack}
use Rattle.uac_transcript.specs.Transcript.{Said}
use Rattle.uac_ends.specs.Outcome.{End}
use Rattle.uac_runner.specs.Machine.{After, and_then, after}
use Rattle.uac_runner.specs.Done.{IsScriptLine, come_to}
use Rattle.uac_runner.specs.Fronts.{EachSteadyFront}
use Rattle.uac_runner.specs.Transcript.{goes, transcript}
use Rattle.uac_runner.proofs.ScriptLemmas.{after_said, and_then_same, script_lines, transcript_same}
use Rattle.uac_runner.proofs.WholeLemmas.{transcript_stays}
use Rattle.uac_scripts.specs.BusLaws.{HasOneTranscript, LinesAreSayings, RefusalStays, ScriptIsWhatItsLinesSay}
use Rattle.uac_scripts.specs.BusMachine.{AreByTable, Sayings, bus_machine, lifted, lifted_after}
use Rattle.uac_scripts.specs.BusRun.{EachBeginning, IsSteadyIn}

-- ---- lines are what they say

then_lifted : (s : bus.Step) (w : BusWorld) (go : BusWorld → bus_after.After) → and_then (lifted s) w (λ v. lifted_after (go v)) ≡ lifted_after (bus_after.and_then s w go)
then_lifted (bus.done next lines) w go = refl
then_lifted (bus.refused fault) w go = refl

after_lifted : (saids : List (Result Phrase ℕ)) (w : BusWorld) → after (λ said v. lifted (said_step said v)) saids w ≡ lifted_after (bus_after.after saids w)
unfolding after bus_after.after
after_lifted [] w = refl
after_lifted (said ∷ saids) w =
    and_then_same (lifted (said_step said w)) w (after (λ s v. lifted (said_step s v)) saids) (λ v. lifted_after (bus_after.after saids v)) (after_lifted saids)
    ∙ then_lifted (said_step said w) w (bus_after.after saids)

pub lines_are_sayings : LinesAreSayings
lines_are_sayings says texts w = after_said says (λ said v. lifted (said_step said v)) texts w ∙ after_lifted (map says texts) w

-- and the text of what they print tells it
pub printed_read_back : (says : Sayings) (texts : List (List ℕ)) (w : BusWorld) (lines : List Said)
    → lines ≡ (after (bus_machine says).step texts w).lines → IsReadBack lines
printed_read_back says texts w lines printed =
    subst IsReadBack (sym (printed ∙ ap (λ (a : After _ _). a.lines) (lines_are_sayings says texts w))) (texts_are_read_back (map says texts) w)

-- ---- what texts say by the table

pub answers_by_table : AreByTable answer
answers_by_table = answer_says

-- texts say what they say
pub all_say : (says : Sayings) (texts : List (List ℕ)) → AreByTable says → AllZip Says texts (map says texts)
all_say says [] table = tt
all_say says (text ∷ texts) table = (table text, all_say says texts table)

-- and nothing else
pub all_said : (says : Sayings) (texts : List (List ℕ)) (saids : List (Result Phrase ℕ)) → AreByTable says → AllZip Says texts saids → saids ≡ map says texts
all_said says texts saids table say =
    (each_says_once texts saids).0 say ∙ sym ((each_says_once texts (map says texts)).0 (all_say says texts table))

-- ---- laws of transcripts

pub one_transcript : HasOneTranscript
one_transcript says says' table table' w taken end =
    transcript_same (bus_machine says) (bus_machine says')
    (λ text v. ap (λ (said : Result Phrase ℕ). lifted (said_step said v)) (says_only text (says text) (table text) ∙ sym (says_only text (says' text) (table' text))))
    (λ v. refl) w taken end

pub script_said : ScriptIsWhatItsLinesSay
script_said says w texts saids rest end table say are fits =
    let go : BusWorld → _ = λ v. goes (bus_machine says) (most_of_input - length (with_newlines texts)) rest end (length texts + 1) v in
    script_lines (bus_machine says) w texts rest end are fits
    ∙ ap (λ (a : After _ _). come_to a 1 go) (lines_are_sayings says texts w)
    ∙ ap (λ (ss : List (Result Phrase ℕ)). come_to (lifted_after (bus_after.after ss w)) 1 go) (sym (all_said says texts saids table say))

pub refusal_stays : RefusalStays
refusal_stays says w taken more end other = transcript_stays (bus_machine says) w taken more end other

-- ---- what is promised

-- what a text says is of bytes
of_bytes : (says : Sayings) (text : List ℕ) → AreByTable says → IsOfBytes (says text)
of_bytes says text table bytes is = feeds_bytes text bytes (sym (says_only text (says text) (table text)) ∙ is)

pub all_of_bytes : (says : Sayings) (texts : List (List ℕ)) → AreByTable says → AllByRecursion IsOfBytes (map says texts)
all_of_bytes says [] table = tt
all_of_bytes says (text ∷ texts) table = (of_bytes says text table, all_of_bytes says texts table)

-- of each steady front of lines, by what they say by the table
pub fronts_keep_promises : (says : Sayings) (shown : List Reading) (texts : List (List ℕ)) → AreByTable says
    → EachSteadyFront (bus_machine says) (start shown) IsSteadyIn (λ front. IsAsPromised (map says front) shown) texts
fronts_keep_promises says shown texts table front rest parts steady =
    all_scripts_keep_promises (map says front) shown (all_of_bytes says front table)
    (subst IsSteadyIn (ap (λ (a : After _ _). a.world) (lines_are_sayings says front (start shown))) steady)

-- and of the first microframes of a line
pub lines_begin : (says : Sayings) (shown : List Reading) (texts : List (List ℕ)) → AreByTable says → EachBeginning says shown texts
lines_begin says shown texts table front rest text count marks n parts is less =
    lines_begin_as_promised all_scripts_keep_promises (map says front) count marks n shown (all_of_bytes says front table) less
