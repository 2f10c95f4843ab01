-- What the host knows of a device with knobs, after every list of a script's lines (profile).
use Rattle.std.specs.Prelude.{◌≡◌, ℕ, List, ◌∷◌, ◌++◌, Contains, Result, Ok}
use Rattle.uac_transcript.specs.Transcript.{says_view, was_broken}
use Rattle.uac_ends.specs.Outcome.{End}
use Rattle.uac_runner.specs.Machine.{after, done}
use Rattle.uac_runner.specs.Transcript.{transcript}
use Rattle.uac_status.specs.PanelLaws.{IsAgreedBut, IsAllKnown}
use Rattle.uac_status.specs.PanelLines.{PanelLine, says_line}
use Rattle.uac_status.specs.DeskPhrases.{DeskPhrase, DeskSays, follow_line}
use Rattle.uac_status.specs.Desks.{DeskWorld, describing, fronted, desk_machine_by, desk_start}

-- what each text says
abbrev pub PanelSayings : Type 0
PanelSayings = List ℕ → Result DeskPhrase ℕ

-- each text says there what it says by the table of lines, with `w` and `n`
abbrev pub AreByPanelTable : PanelSayings → Type 0
AreByPanelTable says = (text : List ℕ) → DeskSays text (says text)

-- the world that lines leave, up to the first that is refused
abbrev pub world_after : PanelSayings → List (List ℕ) → DeskWorld
world_after says texts = (after (desk_machine_by says).step texts desk_start).world

-- ---- what is known after each line

-- each known value of which no message waits is the device's; before the descriptor's end nothing is known
abbrev pub IsAgreedIn : DeskWorld → Type 0
IsAgreedIn (describing bytes) = Unit {0}
IsAgreedIn (fronted w) = IsAgreedBut w.pending w.controls w.view.elements

-- so it is after each front of these lines
abbrev pub EachFrontAgrees : PanelSayings → List (List ℕ) → Type 0
EachFrontAgrees says texts = (front rest : List (List ℕ)) → texts ≡ front ++ rest → IsAgreedIn (world_after says front)

-- ---- what is known after `n`

-- the line of a transfer that broke
abbrev pub broken_line : PanelLine
broken_line = says_line (says_view was_broken)

-- no message waits, and each known value is the device's; there is a device
abbrev pub IsAllKnownIn : DeskWorld → Type 0
IsAllKnownIn (describing bytes) = ⊥
IsAllKnownIn (fronted w) = IsAllKnown w

-- so it is after each `n` among these lines that printed no such line
abbrev pub EachFollowingTells : PanelSayings → List (List ℕ) → Type 0
EachFollowingTells says texts =
    (front rest : List (List ℕ)) (text : List ℕ) (next : DeskWorld) (lines : List PanelLine) → texts ≡ front ++ text ∷ rest
    → says text ≡ Ok follow_line → (desk_machine_by says).step text (world_after says front) ≡ done next lines
    → ¬ Contains lines broken_line → IsAllKnownIn next

-- ---- the laws

-- the table gives a script one transcript
abbrev pub PanelHasOneTranscript : Type 0
PanelHasOneTranscript =
    (says says' : PanelSayings) → AreByPanelTable says → AreByPanelTable says'
    → (w : DeskWorld) (taken : List ℕ) (end : End) → transcript (desk_machine_by says) w taken end ≡ transcript (desk_machine_by says') w taken end

-- of all lists of lines
abbrev pub PanelLinesAgree : Type 0
PanelLinesAgree = (says : PanelSayings) (texts : List (List ℕ)) → AreByPanelTable says → EachFrontAgrees says texts

abbrev pub MessagesTellAllInLines : Type 0
MessagesTellAllInLines = (says : PanelSayings) (texts : List (List ℕ)) → AreByPanelTable says → EachFollowingTells says texts
