use Rattle.uac_graph.proofs.MeaningLemmas.{equation}
use Rattle.uac_graph.proofs.laws.each_wire_has_its_equation.Goals as goal

pub returns : goal.returns
returns c = equation
