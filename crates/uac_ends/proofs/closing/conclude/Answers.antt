use Rattle.uac_ends.proofs.HandingOnLemmas.{closes_on}
use Rattle.uac_ends.proofs.closing.conclude.Goals as goal

pub returns-clause-closed : goal.returns-clause-closed
returns-clause-closed g c = closes_on _ _ _ _ _ _ _ _ _ c.hand_on.ensures.kept c.hand_on.ensures.ends c.close-status.ensures
