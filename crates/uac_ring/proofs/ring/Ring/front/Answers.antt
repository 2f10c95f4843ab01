use Rattle.std.proofs.Common.{◌∙◌}
use Rattle.uac_ring.proofs.RingsLemmas.{oldest_came}
use Rattle.uac_ring.proofs.ring.Ring.front.Goals as goal

pub returns-clause-holds : goal.returns-clause-holds
returns-clause-holds c = λ came gone held. c.at.ensures.frame ∙ oldest_came came c.args.self.now gone held
