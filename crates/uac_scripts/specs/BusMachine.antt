-- The bus as a machine: what a text makes of its world, by what the text says (profile).
use Rattle.std.specs.Prelude.{◌≡◌, ℕ, Bool, false, List, map, Option, None, Some, Result, Ok, Err}
use Rattle.uac_script.specs.Line.{Says}
use Rattle.uac_script.specs.Phrase.{Phrase}
use Rattle.uac_transcript.specs.Transcript.{Said, spelling_of}
use Rattle.uac_fault.specs.declared.fault.BusFault.{BusFault}
use Rattle.uac_fault.specs.declared.fault.BusFault.TheVariants as told
use Rattle.uac_rows.specs.BusWorld.{BusWorld, describing, running}
use Rattle.uac_rows.specs.BusWorld as bus
use Rattle.uac_rows.specs.BusSteps.{may_want}
use Rattle.uac_rows.specs.After as rows
use Rattle.uac_rows.specs.After.{said_step}
use Rattle.uac_ends.specs.declared.fault.LineFault.{LineFault}
use Rattle.uac_ends.specs.declared.fault.LineFault.TheVariants as faults
use Rattle.uac_runner.specs.Machine.{After, Machine, Step, after, done, refused}

-- what each text says
abbrev pub Sayings : Type 0
Sayings = List ℕ → Result Phrase ℕ

-- each text says there what it says by the table of spellings
abbrev pub AreByTable : Sayings → Type 0
AreByTable says = (text : List ℕ) → Says text (says text)

-- a fault of the bus is that of a line
abbrev pub line_fault : BusFault → LineFault
line_fault (told.Script rule) = faults.Script rule
line_fault (told.Grammar fault) = faults.Grammar fault
line_fault (told.Topology fault) = faults.Topology fault
line_fault told.WriteFault = faults.WriteFault
line_fault told.NoMemory = faults.NoMemory

-- a step of the bus is one of a machine
abbrev pub lifted : bus.Step → Step BusWorld Said
lifted (bus.done next lines) = done next lines
lifted (bus.refused fault) = refused (line_fault fault)

-- a script ends after the descriptor's end
abbrev pub rule_at_end : BusWorld → Option ℕ
rule_at_end (describing bytes meters) = Some 8
rule_at_end (running r) = None

-- what a line says may want memory in a world
abbrev pub wants : Result Phrase ℕ → BusWorld → Bool
wants (Ok phrase) w = may_want phrase w
wants (Err rule) w = false

abbrev pub bus_machine : Sayings → Machine BusWorld Said
bus_machine says = record {
  step = λ text w. lifted (said_step (says text) w);
  finish = rule_at_end;
  wants = λ text w. wants (says text) w;
  spell = spelling_of;
}

-- ---- lines in a row

-- the fault of the bus, where there is one, as that of a line
abbrev pub lifted_fault : Option BusFault → Option LineFault
lifted_fault None = None
lifted_fault (Some fault) = Some (line_fault fault)

-- what the bus's lines come to, as a machine's do
abbrev pub lifted_after : rows.After → After BusWorld Said
lifted_after a = record { lines = a.lines; world = a.world; count = a.count; refusal = lifted_fault a.refusal }

-- texts come to what they say does, line after line
abbrev pub AreSayings : Sayings → Type 0
AreSayings says =
    (texts : List (List ℕ)) (w : BusWorld)
    → after (bus_machine says).step texts w ≡ lifted_after (rows.after (map says texts) w)
