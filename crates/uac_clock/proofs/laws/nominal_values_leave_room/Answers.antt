use Rattle.uac_clock.proofs.NominalLemmas.{has_room}
use Rattle.uac_clock.proofs.laws.nominal_values_leave_room.Goals as goal

pub returns-clause-room : goal.returns-clause-room
returns-clause-room c = has_room
