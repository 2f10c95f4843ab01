use Rattle.uac_units.proofs.HearingLemmas.{after_hearing-commutes}
use Rattle.uac_units.proofs.laws.frames_are_heard_in_any_order.Goals as goal

pub returns : goal.returns
returns c = after_hearing-commutes
