use Rattle.std.proofs.Common.{◌∙◌}
use Rattle.uac_ends.specs.declared.fault.LineFault.TheVariants as faults
use Rattle.uac_ends.proofs.ClosingLemmas.{closes_memory}
use Rattle.uac_runner.proofs.RunLemmas.{closes_fault, closes_last}
use Rattle.uac_runner.proofs.run.refuse_line.Goals as goal

pub returns-in-Grammar-clause-closed : goal.returns-in-Grammar-clause-closed
returns-in-Grammar-clause-closed g c =
    closes_last _ (faults.Grammar c.in-Grammar.fault) _ _ _ _ _ _ _ c.in-Grammar.is (c.as_bytes-in-Grammar.ensures.text ∙ c.refusal_line.ensures) c.close-in-Grammar.ensures

pub returns-in-Topology-clause-closed : goal.returns-in-Topology-clause-closed
returns-in-Topology-clause-closed g c =
    closes_last _ (faults.Topology c.in-Topology.fault) _ _ _ _ _ _ _ c.in-Topology.is (c.as_bytes-in-Topology.ensures.text ∙ c.unsound_line.ensures) c.close-in-Topology.ensures

pub returns-in-NoMemory-clause-closed : goal.returns-in-NoMemory-clause-closed
returns-in-NoMemory-clause-closed g c = closes_fault _ faults.NoMemory _ _ _ _ _ _ c.in-NoMemory.is (closes_memory _ _ _ _ _ c.close-in-NoMemory.ensures)
