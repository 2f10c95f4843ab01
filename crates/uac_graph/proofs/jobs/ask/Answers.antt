use Rattle.std.proofs.Common.{sym, subst, ◌≤◌, ℕ}
use Rattle.uac_graph.specs.Jobs.{gain_count}
use Rattle.uac_graph.proofs.JobsLemmas.{gains_few, inputs_few, is_asked, sources_few}
use Rattle.uac_graph.proofs.jobs.ask.Goals as goal

pub inputs_of-requires : goal.inputs_of-requires
inputs_of-requires c = inputs_few c.args.table.now c.args.entity.now c.in-Some.kind (sym c.in-Some.ensures) c.requires

pub set_job-requires-clause-pins : goal.set_job-requires-clause-pins
set_job-requires-clause-pins c chosen =
    sources_few c.args.table.now c.args.entity.now c.in-Some.kind (sym c.in-Some.ensures) c.requires chosen

pub set_job-requires-clause-gains : goal.set_job-requires-clause-gains
set_job-requires-clause-gains c =
    subst (λ (n : ℕ). gain_count c.in-Some.kind c.args.entity.now.cluster.channels n ≤ 256) (sym c.inputs_of.ensures)
    (gains_few c.args.table.now c.args.entity.now c.in-Some.kind (sym c.in-Some.ensures) c.requires)

pub returns-in-Some : goal.returns-in-Some
returns-in-Some c =
    is_asked _ c.args.entity.now c.in-Some.kind c.inputs_of.result _ c.set_job.new.job (sym c.in-Some.ensures) c.inputs_of.ensures c.set_job.ensures.job

pub returns-in-None : goal.returns-in-None
returns-in-None c u is = absurd (let none = c.in-None.ensures in cc)
