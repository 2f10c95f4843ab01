-- The tasks of an order, each done at several ticks before the next one.
use Rattle.std.proofs.Common.{◌≡◌, ◌∙◌, sym, ap, arith, ℕ, ◌+◌, ◌-◌, ◌*◌, ◌<◌, ◌≤◌, List, length, get_or, take, drop}
use Rattle.std.proofs.lemmas.List.{drop_all, drop_more}
use Rattle.uac_entities.specs.declared.entity.Entity.{Entity}
use Rattle.uac_topology_rules.specs.Table.{at}
use Rattle.uac_units.specs.declared.jobs.Job.{Job}
use Rattle.uac_graph.specs.GraphControls.{Controls}
use Rattle.uac_graph.specs.Fitness.{IsSignalGraph}
use Rattle.uac_graph.specs.Jobs.{AreJobs}
use Rattle.uac_graph.specs.Needs.{unit_count}
use Rattle.uac_graph.specs.Orders.{IsRenderOrder, has_id}
use Rattle.uac_graph.specs.Tasks.{tasks_at}
use Rattle.uac_graph.specs.TickRows.{RowsById, frames_at}
use Rattle.uac_graph.specs.Wiring.{AreRendered, samples_on}
use Rattle.uac_graph.specs.declared.tasks.Task.{Task}
use Rattle.uac_graph.proofs.TasksOrderLemmas.{IsNext, Skips, along, ended, no_task}
use Rattle.uac_graph.proofs.NeedsLemmas.{units_left, units_next}

-- so many tasks of an order are done at each of so many ticks: those of its first indices
pub record AreDoneAt (entities : List Entity) (indices : List ℕ) (tasks : List Task) (jobs : List Job) (ticks : ℕ) (old now : RowsById) (count steps all : ℕ) : Type 0 where
  pub upto : ℕ
  pub inside : upto ≤ length indices
  pub left : drop count tasks ≡ tasks_at entities (drop upto indices)
  pub rendered : (controls : Controls) → AreJobs entities controls jobs → (tick : ℕ) → tick < ticks
      → AreRendered entities controls (samples_on (frames_at tick old)) (has_id entities (take upto indices)) (frames_at tick old) (frames_at tick now)
  pub counted : steps + ticks * units_left entities indices upto ≡ all

module _ {entities : List Entity} {indices : List ℕ} {tasks : List Task} {jobs : List Job} {ticks : ℕ} {old now : RowsById} {count steps all : ℕ}
    (sound : IsSignalGraph entities) (order : IsRenderOrder entities indices) (done : AreDoneAt entities indices tasks jobs ticks old now count steps all) where
  -- the next task
  pub next_at : count < length tasks → IsNext entities indices done.upto (get_or tasks count no_task) (drop (count + 1) tasks)
  next_at below =
      let inside = done.inside in
      let sized : (n : ℕ) × (length indices ≡ done.upto + n) = (length indices - done.upto, omega (arith, inside)) in
      along entities indices sound order sized.0 done.upto (get_or tasks count no_task) (drop (count + 1) tasks) sized.1
      (sym (drop_more tasks count no_task below) ∙ done.left)

  -- it is counted once a tick
  pub next_counted_at : (below : count < length tasks)
      → steps + (ticks * unit_count (at entities (get_or tasks count no_task).index).kind + ticks * units_left entities indices ((next_at below).next + 1)) ≡ all
  next_counted_at below =
      let next = next_at below in
      let counted = done.counted in
      let units : units_left entities indices done.upto
      ≡ unit_count (at entities (get_or tasks count no_task).index).kind + units_left entities indices (next.next + 1) =
      next.skips.units ∙ units_next entities indices next.next next.below
      ∙ ap (λ (n : ℕ). unit_count (at entities n).kind + units_left entities indices (next.next + 1)) (sym next.named) in
      omega (arith, counted, ap (λ (n : ℕ). ticks * n) units)

  -- all are done
  pub skips_last_at : length tasks ≤ count → Skips entities indices done.upto (length indices)
  skips_last_at past =
      let inside = done.inside in
      let sized : (n : ℕ) × (length indices ≡ done.upto + n) = (length indices - done.upto, omega (arith, inside)) in
      ended entities indices sound order sized.0 done.upto sized.1 (sym (drop_all count tasks past) ∙ done.left)
