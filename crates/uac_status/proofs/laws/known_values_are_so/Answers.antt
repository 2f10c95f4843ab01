use Rattle.uac_status.proofs.PanelLemmas.{events_keep, messages_tell_all}
use Rattle.uac_status.proofs.StartLemmas.{starts_so}
use Rattle.uac_status.proofs.laws.known_values_are_so.Goals as goal

pub returns : goal.returns
returns c = record { begin = starts_so; events = events_keep; messages = messages_tell_all }
