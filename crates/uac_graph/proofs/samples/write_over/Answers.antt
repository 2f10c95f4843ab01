use Rattle.std.proofs.Common.{◌∙◌, w32}
use Rattle.std.proofs.lemmas.Int.{to_z-of_z}
use Rattle.uac_graph.proofs.FrameRowsSampleLemmas.{one_written, two_written}
use Rattle.uac_graph.proofs.samples.write_over.Goals as goal

pub returns-then-samples-eq1 : goal.returns-then-samples-eq1
returns-then-samples-eq1 c =
    one_written c.args.list.now c.args.samples.now _ c.requires c.if-samples-eq1.true
    (to_z-of_z w32 c.sample_at-only.result (record { sfits = c.sample_at-only.type_inv }) ∙ c.sample_at-only.ensures)

pub returns-then-samples-eq2 : goal.returns-then-samples-eq2
returns-then-samples-eq2 c =
    two_written c.args.list.now c.args.samples.now _ _ c.requires c.if-samples-eq2.true
    (to_z-of_z w32 c.sample_at-left.result (record { sfits = c.sample_at-left.type_inv }) ∙ c.sample_at-left.ensures)
    (to_z-of_z w32 c.sample_at-right.result (record { sfits = c.sample_at-right.type_inv }) ∙ c.sample_at-right.ensures)
