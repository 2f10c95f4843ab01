-- A stop at a fault.
use Rattle.std.proofs.Common.{◌≡◌, Option, None, Some}
use Rattle.uac_grammar_rules.specs.declared.faults.GrammarFault.{GrammarFault}
use Rattle.uac_grammar.specs.declared.fault.ReadStop.TheVariants.{Fault}
use Rattle.uac_grammar.specs.Stop.{stop_at}

-- a stop at a fault is that fault
pub stop_at-Fault : (found : Option GrammarFault) (fault : GrammarFault) → stop_at found ≡ Some (Fault fault) → found ≡ Some fault
stop_at-Fault None fault e = absurd (cc)
stop_at-Fault (Some f) fault e = cc
