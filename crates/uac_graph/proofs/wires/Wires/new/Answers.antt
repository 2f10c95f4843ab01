use Rattle.std.proofs.Common.{sym, subst}
use Rattle.uac_graph.specs.Fitness.{IsSignalGraph}
use Rattle.uac_graph.proofs.FitnessLemmas.{sound_graph}
use Rattle.uac_graph.proofs.wires.Wires.new.Goals as goal

pub silent-requires : goal.silent-requires
silent-requires c = subst IsSignalGraph (sym c.entities.ensures) (sound_graph _ c.functions_are_sound.ensures)
