-- What a step of the world is answered, and which faults are answered again.
use Rattle.std.specs.Prelude.{◌≡◌, ℕ, Bool, true, false, List, Option, Result, Ok, Err}
use Rattle.std.specs.Io.KnownBytes.{Appends}
use Rattle.uac_edges.specs.Writing.{AppendsFront}
use Rattle.uac_script.specs.Phrase.{Phrase, nothing_line, bytes_line, go_line, control_line, get_line, set_line, show_line, break_line}
use Rattle.uac_script.specs.Phrase.{append_line, track_line, jack_line, deviate_line, microframes_line, detail_line, report_line}
use Rattle.uac_transcript.specs.Printing.{text_of}
use Rattle.uac_fault.specs.declared.fault.BusFault.{BusFault}
use Rattle.uac_fault.specs.declared.fault.BusFault.TheVariants as faults
use Rattle.uac_rows.specs.BusWorld.{BusWorld, describing, running, Step, done, refused}

-- a line for which memory may be wanted: one of the descriptor, and samples for a track
abbrev pub takes_memory : Phrase → Bool
takes_memory nothing_line = false
takes_memory (bytes_line bytes) = true
takes_memory go_line = true
takes_memory (control_line setup sent) = false
takes_memory (get_line name) = false
takes_memory (set_line name value) = false
takes_memory (show_line name) = false
takes_memory (break_line after) = false
takes_memory (append_line number samples) = true
takes_memory (track_line number tone) = false
takes_memory (jack_line terminal tone) = false
takes_memory (deviate_line domain ppm) = false
takes_memory (microframes_line count marks) = false
takes_memory (detail_line level) = false
takes_memory report_line = false

-- the descriptor's end hasn't come
abbrev pub is_describing : BusWorld → Bool
is_describing (describing bytes meters) = true
is_describing (running r) = false

-- a line of samples
abbrev pub is_append : Phrase → Bool
is_append nothing_line = false
is_append (bytes_line bytes) = false
is_append go_line = false
is_append (control_line setup sent) = false
is_append (get_line name) = false
is_append (set_line name value) = false
is_append (show_line name) = false
is_append (break_line after) = false
is_append (append_line number samples) = true
is_append (track_line number tone) = false
is_append (jack_line terminal tone) = false
is_append (deviate_line domain ppm) = false
is_append (microframes_line count marks) = false
is_append (detail_line level) = false
is_append report_line = false

-- before the descriptor's end memory may be wanted for its lines, and after it for samples alone
abbrev pub may_want : Phrase → BusWorld → Bool
may_want phrase (describing bytes meters) = takes_memory phrase
may_want phrase (running r) = is_append phrase

-- the step was done: this holds of the next world, and its lines were written
abbrev pub Reaches : Step → (BusWorld → Type 0) → Option (List ℕ) → Option (List ℕ) → Type 0
Reaches (done next lines) Holds written written' = Holds next × Appends written written' (text_of lines)
Reaches (refused fault) Holds written written' = ⊥

-- a write failed in the middle of the step's lines
abbrev pub IsWriteCut : Step → Option (List ℕ) → Option (List ℕ) → Type 0
IsWriteCut (done next lines) written written' = AppendsFront written written' (text_of lines)
IsWriteCut (refused fault) written written' = ⊥

-- why a step wasn't done; memory may be wanted only where this says so
abbrev pub Prevents : BusFault → Bool → Step → Option (List ℕ) → Option (List ℕ) → Type 0
Prevents faults.WriteFault memory s written written' = IsWriteCut s written written'
Prevents faults.NoMemory memory s written written' = memory ≡ true
Prevents (faults.Script rule) memory s written written' = s ≡ refused (faults.Script rule)
Prevents (faults.Grammar fault) memory s written written' = s ≡ refused (faults.Grammar fault)
Prevents (faults.Topology fault) memory s written written' = s ≡ refused (faults.Topology fault)

-- what a step is answered, and what it leaves
abbrev pub Does : Step → Bool → (BusWorld → Type 0) → Option (List ℕ) → Option (List ℕ) → Result (Unit {0}) BusFault → Type 0
Does s memory Holds written written' (Ok _) = Reaches s Holds written written'
Does s memory Holds written written' (Err fault) = Prevents fault memory s written written'

-- a fault that is answered again from now on
abbrev pub is_final : BusFault → Bool
is_final (faults.Script rule) = false
is_final (faults.Grammar fault) = true
is_final (faults.Topology fault) = true
is_final faults.WriteFault = true
is_final faults.NoMemory = true
