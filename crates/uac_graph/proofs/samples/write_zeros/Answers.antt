use Rattle.uac_graph.proofs.FrameRowsSampleLemmas.{one_hushed, two_hushed}
use Rattle.uac_graph.proofs.samples.write_zeros.Goals as goal

pub returns-then-samples-eq1 : goal.returns-then-samples-eq1
returns-then-samples-eq1 c = one_hushed c.args.samples.now c.if-samples-eq1.true

pub returns-then-samples-eq2 : goal.returns-then-samples-eq2
returns-then-samples-eq2 c = two_hushed c.args.samples.now c.if-samples-eq2.true
