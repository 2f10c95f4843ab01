-- A full-speed bench as a machine that does a script's lines: what a text makes of its world, by what the text says (profile).
use Rattle.std.specs.Prelude.{◌≡◌, ℕ, Bool, true, false, List, map, Option, None, Some, Result}
use Rattle.uac_script.specs.Line.{Says}
use Rattle.uac_script.specs.Phrase.{Phrase}
use Rattle.uac_ends.specs.declared.fault.LineFault.{LineFault}
use Rattle.uac_ends.specs.declared.fault.LineFault.TheVariants as faults
use Rattle.uac_ends.specs.Outcome.{End}
use Rattle.uac_runner.specs.Machine.{Machine, Step, After, after, done, refused}
use Rattle.uac_runner.specs.Fronts.{EachSteadyFront}
use Rattle.uac_runner.specs.Transcript.{transcript}
use Rattle.uac_fullspeed.specs.declared.fault.BenchFault.{BenchFault}
use Rattle.uac_fullspeed.specs.declared.fault.BenchFault.TheVariants as told
use Rattle.uac_fullspeed.specs.FullSpeedNominal.{is_fs_listed}
use Rattle.uac_fullspeed.specs.FullSpeedWorld.{FullSpeedWorld, full_speed_start, is_steady_in}
use Rattle.uac_fullspeed.specs.FullSpeedLines.{FsLine, fs_spelling_of}
use Rattle.uac_fullspeed.specs.FullSpeedSteps.{FsStep, FsAfter, fs_done, fs_refused, fs_said_step, fs_after}
use Rattle.uac_fullspeed.specs.FullSpeedPromise.{IsFsPromised}

-- a fault of the bench is that of a line
abbrev pub line_fault : BenchFault → LineFault
line_fault (told.Script rule) = faults.Script rule
line_fault told.WriteFault = faults.WriteFault

-- a step of the bench is one of a machine
abbrev pub fs_lifted : FsStep → Step FullSpeedWorld FsLine
fs_lifted (fs_done next lines) = done next lines
fs_lifted (fs_refused rule) = refused (faults.Script rule)

-- the machine, by what each text says: it never wants memory, and the script's end breaks no rule
abbrev pub fs_machine : (List ℕ → Result Phrase ℕ) → Machine FullSpeedWorld FsLine
fs_machine says = record {
  step = λ text w. fs_lifted (fs_said_step (says text) w);
  finish = λ w. None;
  wants = λ text w. false;
  spell = fs_spelling_of;
}

-- all that was given is steady
abbrev pub IsSteadyBench : FullSpeedWorld → Type 0
IsSteadyBench w = is_steady_in w ≡ true

-- ---- what the laws say of it

abbrev pub fs_lifted_refusal : Option ℕ → Option LineFault
fs_lifted_refusal None = None
fs_lifted_refusal (Some rule) = Some (faults.Script rule)

-- what lines come to
abbrev pub fs_lifted_after : FsAfter → After FullSpeedWorld FsLine
fs_lifted_after a = record { lines = a.lines; world = a.world; count = a.count; refusal = fs_lifted_refusal a.refusal }

-- lines come to what they say does
abbrev pub FsLinesAreSayings : Type 0
FsLinesAreSayings =
    (says : List ℕ → Result Phrase ℕ) (texts : List (List ℕ)) (w : FullSpeedWorld)
    → after (fs_machine says).step texts w ≡ fs_lifted_after (fs_after (map says texts) w)

-- the table of spellings gives a script one transcript
abbrev pub FsHasOneTranscript : Type 0
FsHasOneTranscript =
    (says says' : List ℕ → Result Phrase ℕ) → ((text : List ℕ) → Says text (says text)) → ((text : List ℕ) → Says text (says' text))
    → (w : FullSpeedWorld) (taken : List ℕ) (end : End) → transcript (fs_machine says) w taken end ≡ transcript (fs_machine says') w taken end

-- of every steady front of lines what is promised holds, at each of the ten rates
abbrev pub FsFrontsKeepPromises : Type 0
FsFrontsKeepPromises =
    (says : List ℕ → Result Phrase ℕ) (hertz : ℕ) (texts : List (List ℕ)) → is_fs_listed hertz ≡ true
    → EachSteadyFront (fs_machine says) (full_speed_start hertz) IsSteadyBench (λ front. IsFsPromised (map says front) hertz) texts
