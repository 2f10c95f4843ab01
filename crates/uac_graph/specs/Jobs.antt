-- What a unit is asked to render, by its controls.
use Rattle.std.specs.Prelude.{◌≡◌, ◌==◌, ◌<◌, ◌≤◌, ℕ, ◌+◌, ◌*◌, ◌/◌, ◌%◌, ◌||◌, Bool, true, false, if◌then◌else◌, ℤ, List, Some}
use Rattle.std.specs.Prelude.{map, length, get_or, sum}
use Rattle.std.specs.List.{range_with_len}
use Rattle.uac_entities.specs.declared.entity.Entity.{Entity}
use Rattle.uac_entities.specs.declared.entity.EntityKind.{EntityKind}
use Rattle.uac_units.specs.declared.jobs.Job.{Job}
use Rattle.uac_units.specs.declared.jobs.UnitKind.{UnitKind}
use Rattle.uac_units.specs.declared.jobs.UnitKind.TheVariants as unit
use Rattle.uac_topology_rules.specs.Links.{is_clock}
use Rattle.uac_topology_rules.specs.Rules.{is_output}
use Rattle.uac_topology_rules.specs.Table.{at}
use Rattle.uac_store.specs.StoreControls.{pins_of}
use Rattle.uac_graph.specs.GraphControls.{Controls, feature_gain, node_gain, chosen_pin}
use Rattle.uac_graph.specs.Fitness.{FitsPins}
use Rattle.uac_graph.specs.Needs.{is_unit, unit_of}

-- a unit or an output terminal, which takes a signal from its sources
abbrev pub takes_signal : EntityKind → Bool
takes_signal k = is_unit k || is_output k

-- how many gains a unit of the kind has
abbrev pub gain_count : UnitKind → ℕ → ℕ → ℕ
gain_count unit.Mixer outputs inputs = inputs * outputs
gain_count unit.Feature outputs inputs = 2 * outputs
gain_count unit.Selector outputs inputs = 0
gain_count unit.Effect outputs inputs = 0

-- the gain of a number: of a mixer that of its node, of a feature in turn that of a channel and that of the master; the others
-- have none
abbrev pub gain_at : Controls → ℕ → UnitKind → ℕ → ℕ
gain_at controls id unit.Mixer number = node_gain controls id number
gain_at controls id unit.Feature number = feature_gain controls id (if number % 2 == 0 then number / 2 + 1 else 0)
gain_at controls id unit.Selector number = 0
gain_at controls id unit.Effect number = 0

-- the pin of a selector's job
abbrev pub pin_at : Controls → ℕ → UnitKind → ℕ → ℕ
pin_at controls id unit.Selector count = chosen_pin controls id count
pin_at controls id unit.Mixer count = 0
pin_at controls id unit.Feature count = 0
pin_at controls id unit.Effect count = 0

-- the job of a unit with this id, of so many output channels, pins and input channels
pub record IsJob (controls : Controls) (id : ℕ) (kind : UnitKind) (channels count inputs : ℕ) (job : Job) : Type 0 where
  pub outputs : job.outputs ≡ channels
  pub pin : job.pin ≡ pin_at controls id kind count
  pub gains : job.gains.items ≡ map (gain_at controls id kind) (range_with_len 0 (gain_count kind channels inputs))

-- what an entity takes from its sources fits it: the frames of its sources, pin by pin
pub record FitsFrames (kind : EntityKind) (channels : ℕ) (frames : List (List ℤ)) : Type 0 where
  pub signal : takes_signal kind ≡ true
  pub some : 1 ≤ channels
  pub most : channels ≤ 32
  pub pins : FitsPins kind channels (map length frames)

-- the job of an entity over so many input channels, where the entity is a unit
abbrev pub HasJob : Controls → Entity → ℕ → Job → Type 0
HasJob controls e inputs job =
    (u : UnitKind) → unit_of e.kind ≡ Some u → IsJob controls e.id u e.cluster.channels (length e.sources) inputs job

-- the jobs of the first entities, by their indices: so many
pub record AreFirstJobs (entities : List Entity) (controls : Controls) (count : ℕ) (jobs : List Job) : Type 0 where
  pub counted : length jobs ≡ count
  pub each : (index : ℕ) (d : Job) → index < count
      → HasJob controls (at entities index) (sum (pins_of entities (at entities index))) (get_or jobs index d)

-- the job of each entity, by its index
abbrev pub AreJobs : List Entity → Controls → List Job → Type 0
AreJobs entities controls jobs = AreFirstJobs entities controls (length entities) jobs

-- the controls are as before, but for those of the entity with this id
abbrev pub AreSameBut : ℕ → Controls → Controls → Type 0
AreSameBut id before after = (other selector channel : ℕ) → (other ≡ id → ⊥) → before other selector channel ≡ after other selector channel

-- an entity's job is small: its pins fit its channels, of which it has 1 to 32 where it carries a signal
pub record IsAskable (entities : List Entity) (e : Entity) : Type 0 where
  pub some : is_clock e.kind ≡ false → 1 ≤ e.cluster.channels
  pub most : is_clock e.kind ≡ false → e.cluster.channels ≤ 32
  pub fits : FitsPins e.kind e.cluster.channels (pins_of entities e)
