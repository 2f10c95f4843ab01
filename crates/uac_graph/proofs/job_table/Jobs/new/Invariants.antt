use Rattle.uac_graph.specs.GraphControls.{controls_in}
use Rattle.uac_graph.specs.Jobs.{AreFirstJobs}
use Rattle.uac_graph.proofs.job_table.Jobs.new.Given as goal

abbrev pub invariant-loop-entity : goal.invariant-loop-entity
invariant-loop-entity l = AreFirstJobs l.table (controls_in l.store) l.entity-index l.list.items
