use Rattle.std.proofs.Common.{◌≡◌, take, sum_by}
use Rattle.uac_entities.specs.EntityInterfaces.{channels_of}
use Rattle.uac_graph.proofs.jobs.inputs_of.Given as goal

abbrev pub invariant-loop-source : goal.invariant-loop-source
invariant-loop-source l = l.inputs ≡ sum_by (channels_of l.table) (take l.source-index l.source-items)
