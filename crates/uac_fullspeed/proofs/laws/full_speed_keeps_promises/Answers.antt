use Rattle.uac_fullspeed.proofs.PromiseLemmas.{keeps_promises, happenings_print}
use Rattle.uac_fullspeed.proofs.laws.full_speed_keeps_promises.Goals as goal

pub returns : goal.returns
returns c = record { promised = keeps_promises; printed = happenings_print }
