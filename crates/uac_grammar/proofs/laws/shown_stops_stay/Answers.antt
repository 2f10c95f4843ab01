use Rattle.uac_grammar.proofs.ReaderKeptLemmas.{shown_stop_stays, shown_stop_first}
use Rattle.uac_grammar.proofs.laws.shown_stops_stay.Goals as goal
use Rattle.std.proofs.Common.{◌++◌}

pub returns-clause-shown : goal.returns-clause-shown
returns-clause-shown c = shown_stop_stays

pub returns-clause-first : goal.returns-clause-first
returns-clause-first c = λ bytes more stop e. shown_stop_first (bytes ++ more) stop (shown_stop_stays bytes more stop e)
