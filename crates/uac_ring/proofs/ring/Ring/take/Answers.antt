use Rattle.std.proofs.Common.{◌≡◌, ◌∙◌, ap, sym, ℤ, List, Some, slice_get}
use Rattle.std.proofs.lemmas.Option.{slice_get_within}
use Rattle.uac_ring.proofs.RingsLemmas.{oldest_came, one_gone}
use Rattle.uac_ring.proofs.ring.Ring.take.Goals as goal

pub returns-clause-holds : goal.returns-clause-holds
returns-clause-holds c = λ came gone held.
    let first : Some c.copy_of-oldest.result.items ≡ slice_get c.args.self.now 0 =
    ap (λ (f : List ℤ). Some f) c.copy_of-oldest.ensures ∙ c.in_ok-at.ensures.frame in
    let oldest : Some c.copy_of-oldest.result.items ≡ slice_get came gone = first ∙ oldest_came came c.args.self.now gone held in
    (oldest, one_gone came c.args.self.now c.drop_oldest.new.self gone c.drop_oldest.ensures held (slice_get_within came gone c.copy_of-oldest.result.items (sym oldest)))
