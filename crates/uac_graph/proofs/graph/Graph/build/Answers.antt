use Rattle.std.proofs.Common.{◌∙◌, sym, subst}
use Rattle.uac_graph.specs.Fitness.{IsSignalGraph}
use Rattle.uac_graph.proofs.FitnessLemmas.{sound_graph}
use Rattle.uac_graph.proofs.graph.Graph.build.Goals as goal

pub orders_of-requires : goal.orders_of-requires
orders_of-requires c =
    subst IsSignalGraph (sym (c.in_ok-table.ensures ∙ c.in_ok-copies.ensures ∙ c.entities.ensures)) (sound_graph _ c.functions_are_sound.ensures)

pub invariant_of-result : goal.invariant_of-result
invariant_of-result c = (
  subst IsSignalGraph (sym (c.in_ok-table.ensures ∙ c.in_ok-copies.ensures ∙ c.entities.ensures)) (sound_graph _ c.functions_are_sound.ensures),
  c.in_ok-orders.ensures,
)
