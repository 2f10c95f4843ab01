use Rattle.std.proofs.Common.{ℕ, List, [], ◌∷◌, ◌++◌, ap, ◌∙◌, arith, get_or}
use Rattle.std.proofs.lemmas.List.{get_or_read}
use Rattle.uac_topology_rules.proofs.NotingLemmas.{noted_more}
use Rattle.uac_topology_rules.proofs.order.note.Goals as goal

pub loop-to-preserved : goal.loop-to-preserved
loop-to-preserved c =
    noted_more c.args.node c.args.named.now c.args.namers.now.items c.loop-to.namers.items c.loop-to.to-index c.push.new.self
    c.loop-to-test.true (c.requires c.loop-to.to-index c.loop-to-test.true) (c.in_ok-push.ensures.named ∙ ap (λ (xs : List ℕ). xs ++ c.args.node ∷ []) (get_or_read c.loop-to.namers.items (get_or c.args.named.now c.loop-to.to-index 0) c.index_mut-links.result.now (omega (arith, c.loop-to.invariant.sized, c.requires c.loop-to.to-index c.loop-to-test.true)) c.index_mut-links.ensures.value [])) c.loop-to.invariant
