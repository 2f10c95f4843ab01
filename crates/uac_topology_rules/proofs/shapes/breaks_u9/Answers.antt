use Rattle.std.proofs.Common.{arith}
use Rattle.uac_topology_rules.proofs.ShapeRulesProductLemmas.{product_fits}
use Rattle.uac_topology_rules.proofs.shapes.breaks_u9.Goals as goal

pub overflow_mul-nodes : goal.overflow_mul-nodes
overflow_mul-nodes c =
    omega (arith, product_fits c.inputs-inputs.result c.from.result c.inputs-inputs.ensures.small (omega (arith, c.from.ensures, c.channels-channels.type_inv)))

pub overflow_add-nodes : goal.overflow_add-nodes
overflow_add-nodes c =
    omega (arith, product_fits c.inputs-inputs.result c.from.result c.inputs-inputs.ensures.small (omega (arith, c.from.ensures, c.channels-channels.type_inv)))
