use Rattle.uac_ring.proofs.RingsLemmas.{one_gone}
use Rattle.uac_ring.proofs.ring.Ring.drop_front.Goals as goal

pub returns-clause-holds : goal.returns-clause-holds
returns-clause-holds c = λ came gone held some. one_gone came c.args.self.now c.drop_oldest.new.self gone c.drop_oldest.ensures held some
