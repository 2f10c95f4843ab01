use Rattle.std.proofs.Common.{◌≡◌, ◌∙◌, ◌++◌, ◌∷◌, [], ap, sym, take_all, get_or, true, false, List}
use Rattle.uac_entities.specs.declared.entity.Entity.{Entity}
use Rattle.uac_topology_rules.specs.Clusters.{is_input}
use Rattle.uac_topology_rules.specs.Table.{at}
use Rattle.uac_graph.specs.Tasks.{task_of, tasks_at, work_of}
use Rattle.uac_graph.specs.declared.tasks.Task.{Task}
use Rattle.uac_graph.specs.declared.tasks.Work.{Work}
use Rattle.uac_graph.proofs.TasksOrderLemmas.{input_more, task_more}
use Rattle.uac_graph.proofs.tasks.tasks_of.Goals as goal

pub at-entity-requires : goal.at-entity-requires
at-entity-requires c = c.requires c.loop-index.index-index 0 c.loop-index-test.true

pub loop-index-preserved-then-is_input : goal.loop-index-preserved-then-is_input
loop-index-preserved-then-is_input c =
    let input : is_input (at c.args.table.now (get_or c.args.indices.now c.loop-index.index-index 0)).kind ≡ true =
    ap (λ (e : Entity). is_input e.kind) (sym c.at-entity.ensures) ∙ sym c.is_input.ensures ∙ c.if-is_input.true in
    c.loop-index.invariant ∙ sym (input_more c.args.table.now c.args.indices.now c.loop-index.index-index c.loop-index-test.true input)

pub loop-index-preserved : goal.loop-index-preserved
loop-index-preserved c =
    let old = c.loop-index.tasks.items in
    let here = get_or c.args.indices.now c.loop-index.index-index 0 in
    let other : is_input (at c.args.table.now here).kind ≡ false =
    ap (λ (e : Entity). is_input e.kind) (sym c.at-entity.ensures) ∙ sym c.is_input.ensures ∙ c.if-is_input.false in
    c.in_ok-push.ensures.items
    ∙ ap (λ (w : Work). old ++ record { index = here; work = w } ∷ []) (c.work_of.ensures ∙ ap work_of c.at-entity.ensures)
    ∙ ap (λ (ts : List Task). ts ++ task_of c.args.table.now here ∷ []) c.loop-index.invariant
    ∙ sym (task_more c.args.table.now c.args.indices.now c.loop-index.index-index c.loop-index-test.true other)

pub returns : goal.returns
returns c = c.loop-index.invariant ∙ ap (tasks_at c.args.table.now) (take_all c.loop-index.index-index c.args.indices.now c.loop-index-test.false)
