use Rattle.uac_rate.proofs.LevelsLemmas.{rates_band}
use Rattle.uac_rate.proofs.laws.rates_have_bands.Goals as goal

pub returns : goal.returns
returns c = λ values h. let room = c.nominal_values_leave_room.ensures.room values h in (room, rates_band values h room)
