use Rattle.std.proofs.Common.{◌∙◌, ◌<◌, ap, refl, subst, sym, length}
use Rattle.std.specs.List.{All}
use Rattle.uac_graph.specs.Tasks.{tasks_at}
use Rattle.uac_graph.proofs.orders.kept_order.Goals as goal

pub tasks_of-requires : goal.tasks_of-requires
tasks_of-requires c = subst (All (λ index. index < length c.args.table.now)) (sym c.deref.ensures.value) c.in_ok-indices.ensures.order.inside

pub returns : goal.returns
returns c = (
  refl,
  record { order_of = c.in_ok-indices.ensures; tasks_of = c.in_ok-tasks.ensures ∙ ap (tasks_at c.args.table.now) c.deref.ensures.value },
)
