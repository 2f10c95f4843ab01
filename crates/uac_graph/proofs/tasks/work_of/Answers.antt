use Rattle.std.proofs.Common.{◌∙◌, ap, sym, length, get_or, ◌∷◌, []}
use Rattle.uac_graph.specs.Tasks.{work_by}
use Rattle.uac_graph.proofs.TasksLemmas.{works_many, works_one}
use Rattle.uac_graph.proofs.tasks.work_of.Goals as goal

pub returns-then-sources-ne1 : goal.returns-then-sources-ne1
returns-then-sources-ne1 c =
    sym (works_many c.args.entity.now (λ one. c.if-sources-ne1.true (ap length c.as_slice-sources.ensures ∙ one)))

pub returns-in-Some : goal.returns-in-Some
returns-in-Some c =
    let e = c.args.entity.now in
    let sources = c.as_slice-sources.result.now in
    sym (
    works_one e sources c.as_slice-sources.ensures c.if-sources-ne1.false
    ∙ ap (λ unit. work_by e.id unit (get_or sources 0 0 ∷ [])) (sym c.in-Some.ensures))

pub returns-in-None : goal.returns-in-None
returns-in-None c =
    let e = c.args.entity.now in
    let sources = c.as_slice-sources.result.now in
    sym (
    works_one e sources c.as_slice-sources.ensures c.if-sources-ne1.false
    ∙ ap (λ unit. work_by e.id unit (get_or sources 0 0 ∷ [])) (sym c.in-None.ensures))
