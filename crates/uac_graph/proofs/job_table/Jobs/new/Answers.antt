use Rattle.std.proofs.Common.{◌≡◌, ◌<◌, ap, sym, subst, arith, get_or, length, ℕ, List}
use Rattle.uac_entities.specs.declared.entity.Entity.{Entity}
use Rattle.uac_graph.specs.GraphControls.{controls_in}
use Rattle.uac_graph.specs.Jobs.{AreFirstJobs}
use Rattle.uac_graph.proofs.JobsLemmas.{askable, no_jobs, one_job_more}
use Rattle.uac_topology_rules.proofs.TableIdLemmas.{at_read}
use Rattle.uac_graph.proofs.job_table.Jobs.new.Goals as goal

pub loop-entity-init : goal.loop-entity-init
loop-entity-init c =
    subst (AreFirstJobs c.args.table.now (controls_in c.args.store.now) 0) (sym c.new-list.ensures.items) (no_jobs c.args.table.now (controls_in c.args.store.now))

pub ask-requires : goal.ask-requires
ask-requires c =
    let inside = subst (λ (es : List Entity). c.loop-entity.entity-index < length es) c.as_slice-entity-items.ensures c.loop-entity-test.true in
    askable c.args.table.now c.loop-entity.entity-index c.entity-item.result c.requires inside
    (at_read c.args.table.now c.loop-entity.entity-index c.entity-item.result inside
    (subst (λ (es : List Entity). c.entity-item.result ≡ get_or es c.loop-entity.entity-index c.entity-item.result) c.as_slice-entity-items.ensures c.entity-item.is))

pub loop-entity-preserved : goal.loop-entity-preserved
loop-entity-preserved c =
    let inside = subst (λ (es : List Entity). c.loop-entity.entity-index < length es) c.as_slice-entity-items.ensures c.loop-entity-test.true in
    one_job_more c.args.table.now (controls_in c.args.store.now) c.loop-entity.entity-index c.loop-entity.list.items c.push.new.self.items c.ask.new.job c.entity-item.result
    (at_read c.args.table.now c.loop-entity.entity-index c.entity-item.result inside
    (subst (λ (es : List Entity). c.entity-item.result ≡ get_or es c.loop-entity.entity-index c.entity-item.result) c.as_slice-entity-items.ensures c.entity-item.is))
    c.ask.ensures (c.in_ok-push.ensures.items) c.loop-entity.invariant

pub returns : goal.returns
returns c =
    let same = ap length c.as_slice-entity-items.ensures in
    let past : c.loop-entity.entity-index ≡ length c.args.table.now = omega (arith, c.loop-entity.auto.entity-index-end, same) in
    subst (λ (n : ℕ). AreFirstJobs c.args.table.now (controls_in c.args.store.now) n c.loop-entity.list.items) past c.loop-entity.invariant
