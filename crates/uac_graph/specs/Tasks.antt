-- What is done at the indices of an order at each tick, as it follows from the graph.
use Rattle.std.specs.Prelude.{ℕ, Bool, not, List, [], ◌∷◌, Option, Some, None, map, filter}
use Rattle.uac_entities.specs.declared.entity.Entity.{Entity}
use Rattle.uac_topology_rules.specs.Clusters.{is_input}
use Rattle.uac_topology_rules.specs.Table.{at}
use Rattle.uac_units.specs.declared.jobs.UnitKind.{UnitKind}
use Rattle.uac_graph.specs.declared.tasks.Task.{Task}
use Rattle.uac_graph.specs.declared.tasks.Work.{Work}
use Rattle.uac_graph.specs.declared.tasks.Work.TheVariants.{Pass, Render, Ask}
use Rattle.uac_graph.specs.Needs.{unit_of}

-- an entity of one source is rendered by its unit, or passes its source's frame on where it has none. Any other is asked at the tick
abbrev pub work_by : ℕ → Option UnitKind → List ℕ → Work
work_by id (Some kind) (source ∷ []) = Render kind source id
work_by id None (source ∷ []) = Pass source id
work_by id unit [] = Ask
work_by id unit (source ∷ other ∷ sources) = Ask

-- what is done for an entity
unfoldable pub work_of : Entity → Work
work_of e = work_by e.id (unit_of e.kind) e.sources

-- what is done for the entity at an index
abbrev pub task_of : List Entity → ℕ → Task
task_of entities index = record { index = index; work = work_of (at entities index) }

-- something is done at an index: an input terminal has its frame
abbrev pub is_worked : List Entity → ℕ → Bool
is_worked entities index = not (is_input (at entities index).kind)

-- what is done at these indices, one after the other
abbrev pub tasks_at : List Entity → List ℕ → List Task
tasks_at entities indices = map (task_of entities) (filter (is_worked entities) indices)
