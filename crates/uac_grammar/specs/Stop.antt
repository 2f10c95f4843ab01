-- The first fault as a reader tells it, and whether it can tell it before the input ends.
use Rattle.std.specs.Prelude.{ℕ, Bool, not, ◌&&◌, ◌==◌, nat_lt, if◌then◌else◌, List, length, Option, Some, None}
use Rattle.uac_grammar_rules.specs.declared.faults.GrammarFault.{GrammarFault}
use Rattle.uac_grammar_rules.specs.Grammar.{first_fault}
use Rattle.uac_grammar.specs.declared.fault.ReadStop.{ReadStop}
use Rattle.uac_grammar.specs.declared.fault.ReadStop.TheVariants.{Fault}

-- n bytes show this fault: it lies before their end, and isn't a block that is cut off (rule G1)
abbrev pub is_shown : ℕ → GrammarFault → Bool
is_shown n fault = not (fault.rule == 1) && nat_lt fault.at n

-- a fault, where n bytes show it
abbrev pub shown_within : ℕ → Option GrammarFault → Option GrammarFault
shown_within n None = None
shown_within n (Some fault) = if is_shown n fault then Some fault else None

-- the first fault, where more bytes can't change it
abbrev pub shown_fault : List ℕ → Option GrammarFault
shown_fault bytes = shown_within (length bytes) (first_fault bytes)

-- a fault as a stop
abbrev pub stop_at : Option GrammarFault → Option ReadStop
stop_at None = None
stop_at (Some fault) = Some (Fault fault)

abbrev pub first_stop : List ℕ → Option ReadStop
first_stop bytes = stop_at (first_fault bytes)

abbrev pub shown_stop : List ℕ → Option ReadStop
shown_stop bytes = stop_at (shown_fault bytes)
