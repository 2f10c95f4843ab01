-- Laws of the bus's transcripts (profile).
use Rattle.std.specs.Prelude.{◌≡◌, ◌≢◌, ℕ, ◌+◌, ◌-◌, ◌≤◌, List, ◌++◌, length, Result}
use Rattle.std.specs.List.{AllByRecursion, AllZip}
use Rattle.uac_edges.specs.TextLines.{with_newlines}
use Rattle.uac_lines.specs.ScriptLines.{most_of_input}
use Rattle.uac_script.specs.Line.{Says}
use Rattle.uac_script.specs.Phrase.{Phrase}
use Rattle.uac_rows.specs.BusWorld.{BusWorld}
use Rattle.uac_rows.specs.After as bus
use Rattle.uac_ends.specs.declared.status.Status.TheVariants as statuses
use Rattle.uac_ends.specs.Outcome.{End, stopped, told}
use Rattle.uac_runner.specs.Done.{IsScriptLine, come_to}
use Rattle.uac_runner.specs.Transcript.{goes, transcript}
use Rattle.uac_scripts.specs.BusMachine.{AreByTable, AreSayings, Sayings, bus_machine, lifted_after}

-- lines come to what they say does
abbrev pub LinesAreSayings : Type 0
LinesAreSayings = (says : Sayings) → AreSayings says

-- the transcript of bytes that are lines and a rest: what the lines print one after the other, by what each says by the table, up to
-- the first refusal, which names its line; and where none is refused, then what the rest comes to in the world that they leave
abbrev pub ScriptIsWhatItsLinesSay : Type 0
ScriptIsWhatItsLinesSay =
    (says : Sayings) (w : BusWorld) (texts : List (List ℕ)) (saids : List (Result Phrase ℕ)) (rest : List ℕ) (end : End)
    → AreByTable says → AllZip Says texts saids → AllByRecursion IsScriptLine texts → length (with_newlines texts) ≤ most_of_input
    → transcript (bus_machine says) w (with_newlines texts ++ rest) end
    ≡ come_to (lifted_after (bus.after saids w)) 1
    (λ v. goes (bus_machine says) (most_of_input - length (with_newlines texts)) rest end (length texts + 1) v)

-- a refusal that stands in the bytes of a script is that of every longer script that begins with them
abbrev pub RefusalStays : Type 0
RefusalStays =
    (says : Sayings) (w : BusWorld) (taken more : List ℕ) (end : End)
    → (told (transcript (bus_machine says) w taken stopped).last).status ≢ statuses.WriteFault
    → transcript (bus_machine says) w (taken ++ more) end ≡ transcript (bus_machine says) w taken stopped

-- the table of spellings gives a script one transcript
abbrev pub HasOneTranscript : Type 0
HasOneTranscript =
    (says says' : Sayings) → AreByTable says → AreByTable says' → (w : BusWorld) (taken : List ℕ) (end : End)
    → transcript (bus_machine says) w taken end ≡ transcript (bus_machine says') w taken end
