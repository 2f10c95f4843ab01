-- The tasks of an order, one after the other. Between them stand input terminals, for which nothing is done.
use Rattle.std.proofs.Common.{◌≡◌, ◌∙◌, sym, ap, subst, refl, arith, ℕ, zero, suc, ◌+◌, ◌-◌, ◌<◌, ◌≤◌, Bool, true, false, not, cond, ℤ, List, [], ◌∷◌, ◌++◌, length, get_or, map, take, drop, ◌⊎◌, inl, inr}
use Rattle.std.specs.Prelude.{filter}
use Rattle.std.proofs.lemmas.List.{append-nil, drop_all, drop_more, map-append}
use Rattle.std.proofs.lemmas.List.Elements.{filter_more}
use Rattle.uac_entities.specs.declared.entity.Entity.{Entity}
use Rattle.uac_topology_rules.specs.Clusters.{is_input}
use Rattle.uac_topology_rules.specs.Table.{at}
use Rattle.uac_units.specs.declared.jobs.Job.{Job}
use Rattle.uac_graph.specs.GraphControls.{Controls}
use Rattle.uac_graph.specs.Fitness.{IsSignalGraph}
use Rattle.uac_graph.specs.Jobs.{AreJobs}
use Rattle.uac_graph.specs.Needs.{unit_count}
use Rattle.uac_graph.specs.Orders.{IsRenderOrder, has_id}
use Rattle.uac_graph.specs.Tasks.{is_worked, task_of, tasks_at, work_of}
use Rattle.uac_graph.specs.Wiring.{AreGiven, AreRendered, Frames}
use Rattle.uac_graph.specs.declared.tasks.Task.{Task}
use Rattle.uac_graph.specs.declared.tasks.Work.TheVariants.{Pass}
use Rattle.uac_graph.proofs.TasksLemmas.{input_uncounted}
use Rattle.uac_graph.proofs.WiringOrderLemmas.{kept_at, step_rendered}
use Rattle.uac_graph.proofs.NeedsLemmas.{units_left, units_next}

either : (b : Bool) → (b ≡ true) ⊎ (b ≡ false)
either true = inl refl
either false = inr refl

-- ---- the tasks of one index more

index_more : (entities : List Entity) (indices : List ℕ) (i : ℕ) (worked : Bool) → i < length indices → is_worked entities (get_or indices i 0) ≡ worked
    → tasks_at entities (take (i + 1) indices) ≡ tasks_at entities (take i indices) ++ map (task_of entities) (cond worked (get_or indices i 0 ∷ []) [])
index_more entities indices i worked below is =
    ap (map (task_of entities))
    (filter_more (is_worked entities) indices i 0 below
    ∙ ap (λ (b : Bool). filter (is_worked entities) (take i indices) ++ cond b (get_or indices i 0 ∷ []) []) is)
    ∙ map-append (task_of entities) (filter (is_worked entities) (take i indices)) (cond worked (get_or indices i 0 ∷ []) [])

-- none for an input terminal
pub input_more : (entities : List Entity) (indices : List ℕ) (i : ℕ) → i < length indices → is_input (at entities (get_or indices i 0)).kind ≡ true
    → tasks_at entities (take (i + 1) indices) ≡ tasks_at entities (take i indices)
input_more entities indices i below input =
    index_more entities indices i false below (ap not input) ∙ append-nil (tasks_at entities (take i indices))

-- one for any other
pub task_more : (entities : List Entity) (indices : List ℕ) (i : ℕ) → i < length indices → is_input (at entities (get_or indices i 0)).kind ≡ false
    → tasks_at entities (take (i + 1) indices) ≡ tasks_at entities (take i indices) ++ task_of entities (get_or indices i 0) ∷ []
task_more entities indices i below other = index_more entities indices i true below (ap not other)

-- ---- the next task, and the index where it is done

-- from the first indices on, input terminals alone stand before another index: they have their frames, and none is a unit
pub record Skips (entities : List Entity) (indices : List ℕ) (upto next : ℕ) : Type 0 where
  pub units : units_left entities indices upto ≡ units_left entities indices next
  pub rendered : (controls : Controls) (ins : ℕ → List ℤ) (old now : Frames) → AreGiven entities ins old
      → AreRendered entities controls ins (has_id entities (take upto indices)) old now
      → AreRendered entities controls ins (has_id entities (take next indices)) old now

-- the index of the task that is next
pub record IsNext (entities : List Entity) (indices : List ℕ) (upto : ℕ) (task : Task) (rest : List Task) : Type 0 where
  pub next : ℕ
  pub below : next < length indices
  pub named : task.index ≡ get_or indices next 0
  pub works : task.work ≡ work_of (at entities task.index)
  pub worked : is_input (at entities task.index).kind ≡ false
  pub left : rest ≡ tasks_at entities (drop (next + 1) indices)
  pub skips : Skips entities indices upto next

module _ (entities : List Entity) (indices : List ℕ) (sound : IsSignalGraph entities) (order : IsRenderOrder entities indices) where
  skips_none : (upto : ℕ) → Skips entities indices upto upto
  skips_none upto = record { units = refl; rendered = λ controls ins old now given before. before }

  -- one input terminal more
  skips_more : (upto next : ℕ) → upto < length indices → is_input (at entities (get_or indices upto 0)).kind ≡ true
      → Skips entities indices (upto + 1) next → Skips entities indices upto next
  skips_more upto next below input later =
      let e = at entities (get_or indices upto 0) in
      record {
        units = omega (arith, units_next entities indices upto below, input_uncounted e.kind 0 input, later.units);
        rendered = λ controls ins old now given before.
            later.rendered controls ins old now given
            (step_rendered entities controls ins indices upto old now now sound order below given before
            (kept_at entities controls (get_or indices upto 0) e now refl input));
      }

  -- the tasks from an index on
  from_index : (upto : ℕ) (worked : Bool) → upto < length indices → is_worked entities (get_or indices upto 0) ≡ worked
      → tasks_at entities (drop upto indices)
      ≡ cond worked (task_of entities (get_or indices upto 0) ∷ tasks_at entities (drop (upto + 1) indices)) (tasks_at entities (drop (upto + 1) indices))
  from_index upto worked below is =
      let p = get_or indices upto 0 in
      let following = filter (is_worked entities) (drop (upto + 1) indices) in
      ap (λ (ps : List ℕ). map (task_of entities) (filter (is_worked entities) ps)) (drop_more indices upto 0 below)
      ∙ ap (λ (b : Bool). map (task_of entities) (cond b (p ∷ following) following)) is
      ∙ by worked p following
    where
      by : (b : Bool) (p : ℕ) (following : List ℕ)
          → map (task_of entities) (cond b (p ∷ following) following) ≡ cond b (task_of entities p ∷ map (task_of entities) following) (map (task_of entities) following)
      by true p following = refl
      by false p following = refl

  next_over : (upto : ℕ) (task : Task) (rest : List Task) → upto < length indices → is_input (at entities (get_or indices upto 0)).kind ≡ true
      → IsNext entities indices (upto + 1) task rest → IsNext entities indices upto task rest
  next_over upto task rest below input later = record {
    next = later.next;
    below = later.below;
    named = later.named;
    works = later.works;
    worked = later.worked;
    left = later.left;
    skips = skips_more upto later.next below input later.skips;
  }

  next_here : (upto : ℕ) (task : Task) (rest : List Task) → upto < length indices → is_input (at entities (get_or indices upto 0)).kind ≡ false
      → task ∷ rest ≡ task_of entities (get_or indices upto 0) ∷ tasks_at entities (drop (upto + 1) indices) → IsNext entities indices upto task rest
  next_here upto task rest below other is =
      let same : task ≡ task_of entities (get_or indices upto 0) = cc in
      let named : task.index ≡ get_or indices upto 0 = ap (λ (t : Task). t.index) same in
      record {
        next = upto;
        below = below;
        named = named;
        works = ap (λ (t : Task). t.work) same ∙ ap (λ (n : ℕ). work_of (at entities n)) (sym named);
        worked = ap (λ (n : ℕ). is_input (at entities n).kind) named ∙ other;
        left = (let following : rest ≡ tasks_at entities (drop (upto + 1) indices) = cc in following);
        skips = skips_none upto;
      }

  pub along : (n upto : ℕ) (task : Task) (rest : List Task) → length indices ≡ upto + n → task ∷ rest ≡ tasks_at entities (drop upto indices)
      → IsNext entities indices upto task rest
  along zero upto task rest sized left =
      absurd (let none : task ∷ rest ≡ [] = left ∙ ap (λ (ps : List ℕ). tasks_at entities ps) (drop_all upto indices (omega (arith, sized))) in cc)
  along (suc n) upto task rest sized left =
      let below : upto < length indices = omega (arith, sized) in
      elim (either (is_input (at entities (get_or indices upto 0)).kind)) [
        | inl input ↦
            next_over upto task rest below input
            (along n (upto + 1) task rest (omega (arith, sized)) (left ∙ from_index upto false below (ap not input)))
        | inr other ↦ next_here upto task rest below other (left ∙ from_index upto true below (ap not other))
      ]

  -- where no task is left, input terminals alone are
  pub ended : (n upto : ℕ) → length indices ≡ upto + n → [] ≡ tasks_at entities (drop upto indices) → Skips entities indices upto (length indices)
  ended zero upto sized left =
      let here : upto ≡ length indices = omega (arith, sized) in
      subst (λ (n : ℕ). Skips entities indices upto n) here (skips_none upto)
  ended (suc n) upto sized left =
      let below : upto < length indices = omega (arith, sized) in
      elim (either (is_input (at entities (get_or indices upto 0)).kind)) [
        | inl input ↦
            skips_more upto (length indices) below input (ended n (upto + 1) (omega (arith, sized)) (left ∙ from_index upto false below (ap not input)))
        | inr other ↦
            absurd (let some : [] ≡ task_of entities (get_or indices upto 0) ∷ tasks_at entities (drop (upto + 1) indices) = left ∙ from_index upto true below (ap not other) in cc)
      ]

-- ---- an order that is followed

-- what is read where no task is
abbrev pub no_task : Task
no_task = record { index = 0; work = Pass 0 0 }

-- so many tasks of an order are done: those of its first indices
pub record AreDone (entities : List Entity) (indices : List ℕ) (tasks : List Task) (jobs : List Job) (ins : ℕ → List ℤ) (old now : Frames) (count steps all : ℕ) : Type 0 where
  pub upto : ℕ
  pub inside : upto ≤ length indices
  pub left : drop count tasks ≡ tasks_at entities (drop upto indices)
  pub rendered : (controls : Controls) → AreJobs entities controls jobs → AreRendered entities controls ins (has_id entities (take upto indices)) old now
  pub counted : steps + units_left entities indices upto ≡ all

module _ {entities : List Entity} {indices : List ℕ} {tasks : List Task} {jobs : List Job} {ins : ℕ → List ℤ} {old now : Frames} {count steps all : ℕ}
    (sound : IsSignalGraph entities) (order : IsRenderOrder entities indices) (done : AreDone entities indices tasks jobs ins old now count steps all) where
  -- the next task
  pub next_of : count < length tasks → IsNext entities indices done.upto (get_or tasks count no_task) (drop (count + 1) tasks)
  next_of below =
      let inside = done.inside in
      let sized : (n : ℕ) × (length indices ≡ done.upto + n) = (length indices - done.upto, omega (arith, inside)) in
      along entities indices sound order sized.0 done.upto (get_or tasks count no_task) (drop (count + 1) tasks) sized.1
      (sym (drop_more tasks count no_task below) ∙ done.left)

  -- it is counted
  pub next_counted : (below : count < length tasks)
      → steps + (unit_count (at entities (get_or tasks count no_task).index).kind + units_left entities indices ((next_of below).next + 1)) ≡ all
  next_counted below =
      let next = next_of below in
      let counted = done.counted in
      let units = next.skips.units in
      omega (arith, counted, units, units_next entities indices next.next next.below, ap (λ (n : ℕ). unit_count (at entities n).kind) next.named)

  -- all are done
  pub skips_last : length tasks ≤ count → Skips entities indices done.upto (length indices)
  skips_last past =
      let inside = done.inside in
      let sized : (n : ℕ) × (length indices ≡ done.upto + n) = (length indices - done.upto, omega (arith, inside)) in
      ended entities indices sound order sized.0 done.upto sized.1 (sym (drop_all count tasks past) ∙ done.left)
