-- How a run ends, and its last line (profile).
use Rattle.std.specs.Prelude.{ℕ, List, []}
use Rattle.uac_grammar_rules.specs.declared.faults.GrammarFault.{GrammarFault}
use Rattle.uac_topology_rules.specs.declared.fault.TopologyFault.{TopologyFault}
use Rattle.uac_transcript.specs.Transcript.{Said, spelling_of, says_misread, says_no_memory, says_read_fault, says_refused, says_too_long, says_unsound}
use Rattle.uac_ends.specs.declared.fault.LineFault.{LineFault}
use Rattle.uac_ends.specs.declared.fault.LineFault.TheVariants as faults
use Rattle.uac_ends.specs.declared.status.Status.{Status}
use Rattle.uac_ends.specs.declared.status.Status.TheVariants as statuses

-- why no more was taken of the source
pub data End : Type 0 where
  -- no byte is left
  at_end : End
  -- a read failed
  read_failed : End
  -- a refusal stands in what was taken, or memory was wanted
  stopped : End

-- the text and the status
pub record Outcome : Type 0 where
  pub text : List ℕ
  pub status : Status

-- one line
abbrev pub one_line : Said → Status → Outcome
one_line said status = record { text = spelling_of said; status = status }

-- nothing is printed
abbrev pub no_line : Status → Outcome
no_line status = record { text = []; status = status }

-- ---- last lines

abbrev pub read_fault : Outcome
read_fault = one_line says_read_fault statuses.ReadFault

abbrev pub no_memory : Outcome
no_memory = one_line says_no_memory statuses.NoMemory

abbrev pub too_long : Outcome
too_long = one_line says_too_long statuses.TooLong

-- a descriptor breaks a rule of the grammar: the rule and its place
abbrev pub refusal : GrammarFault → Outcome
refusal fault = one_line (says_refused fault.rule fault.at) statuses.Descriptor

-- the function breaks a rule of the topology: the rule and its offender
abbrev pub unsound : TopologyFault → Outcome
unsound fault = one_line (says_unsound fault.rule fault.interface fault.id) statuses.Descriptor

-- a line breaks a rule of the script: the rule and the line's number
abbrev pub misread : ℕ → ℕ → Outcome
misread rule number = one_line (says_misread rule number) statuses.Script

-- ---- how the lines of a script end

-- how a run ends after the lines that were done
pub data Last : Type 0 where
  -- the script is at its end, and nothing more is printed
  finished : Last
  -- the line with this number is refused, or the end of the script is
  at_refusal : LineFault → ℕ → Last
  -- the line with this number is too long
  at_long_line : ℕ → Last
  -- the input is too long
  past_limit : Last
  at_failed_read : Last
  -- nothing more was taken, and nothing more is printed
  no_more_lines : Last
  -- memory was wanted
  without_memory : Last

-- the last line of a refusal, of the line with this number; after a write that failed there is none
abbrev pub refused_with : LineFault → ℕ → Outcome
refused_with (faults.Script rule) number = misread rule number
refused_with (faults.Grammar fault) number = refusal fault
refused_with (faults.Topology fault) number = unsound fault
refused_with faults.WriteFault number = no_line statuses.WriteFault
refused_with faults.NoMemory number = no_memory

-- its last line and its status
abbrev pub told : Last → Outcome
told finished = no_line statuses.Ok
told (at_refusal fault number) = refused_with fault number
told (at_long_line number) = misread 1 number
told past_limit = too_long
told at_failed_read = read_fault
told no_more_lines = no_line statuses.WriteFault
told without_memory = no_memory
