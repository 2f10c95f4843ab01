-- The sample on each wire of a signal graph (Audio Class 2.0, 3.13: terminals and units), by recursion over entities.
-- Profile: the arithmetic, and that an effect unit is always bypassed.
use Rattle.std.specs.Prelude.{ℕ, ◌+◌, ◌*◌, zero, suc, if◌then◌else◌, ℤ, pos, List, [], map, length}
use Rattle.std.specs.List.{range_with_len}
use Rattle.uac_entities.specs.declared.entity.Entity.{Entity}
use Rattle.uac_entities.specs.declared.entity.EntityKind.{EntityKind}
use Rattle.uac_entities.specs.declared.entity.EntityKind.TheVariants as kind
use Rattle.uac_topology_rules.specs.Clusters.{is_input}
use Rattle.uac_topology_rules.specs.Links.{signal_sources}
use Rattle.uac_topology_rules.specs.Table.{at, index_of}
use Rattle.uac_units.specs.declared.jobs.UnitKind.TheVariants as unit
use Rattle.uac_units.specs.Rendering.{UnitControls, by_frames, input, pin_frame, unit_sample}
use Rattle.uac_graph.specs.GraphControls.{Controls, feature_gain, node_gain, chosen_pin}

-- the entity with this id; where no entity has it, one with no sources and no channels
unfoldable pub entity : List Entity → ℕ → Entity
entity entities id = at entities (index_of entities id)

-- how the controls set the unit with this id, of so many output channels and pins. A mixer's controls are numbered by its nodes,
-- by inputs; channels of a feature's controls count from 1, the master being 0
abbrev pub set_by_controls : Controls → ℕ → ℕ → ℕ → UnitControls
set_by_controls controls id outputs pins = record {
  node = λ at channel. node_gain controls id (at * outputs + channel);
  chosen = chosen_pin controls id pins;
  own = λ channel. feature_gain controls id (channel + 1);
  master = λ channel. feature_gain controls id 0;
}

-- the sample of an output channel of the entity with this id, from the frames of its sources, pin by pin. A unit's is its case; an
-- output terminal passes its one source on; an input terminal and a clock entity take no signal
abbrev pub sample_of : Controls → ℕ → EntityKind → ℕ → List (List ℤ) → ℕ → ℤ
sample_of controls id kind.Mixer outputs frames channel =
    unit_sample unit.Mixer (set_by_controls controls id outputs (length frames)) (by_frames frames) channel
sample_of controls id kind.Selector outputs frames channel =
    unit_sample unit.Selector (set_by_controls controls id outputs (length frames)) (by_frames frames) channel
sample_of controls id kind.Feature outputs frames channel =
    unit_sample unit.Feature (set_by_controls controls id outputs (length frames)) (by_frames frames) channel
sample_of controls id kind.Effect outputs frames channel =
    unit_sample unit.Effect (set_by_controls controls id outputs (length frames)) (by_frames frames) channel
sample_of controls id kind.OutputTerminal outputs frames channel = input (pin_frame frames 0) channel
sample_of controls id kind.InputTerminal outputs frames channel = pos 0
sample_of controls id kind.ClockSource outputs frames channel = pos 0
sample_of controls id kind.ClockSelector outputs frames channel = pos 0
sample_of controls id kind.ClockMultiplier outputs frames channel = pos 0

-- the samples of all output channels
unfoldable pub frame_of : Controls → ℕ → EntityKind → ℕ → List (List ℤ) → List ℤ
frame_of controls id kind outputs frames = map (sample_of controls id kind outputs frames) (range_with_len 0 outputs)

-- one step: the samples of an entity, by those of its sources. An input terminal gives what it is given
unfoldable pub samples_by : List Entity → Controls → (ℕ → List ℤ) → (ℕ → List ℤ) → ℕ → List ℤ
samples_by entities controls ins below id =
    let e = entity entities id in
    if is_input e.kind then ins id else frame_of controls id e.kind e.cluster.channels (map below (signal_sources e))

-- the samples, along at most n links
unfoldable pub samples : ℕ → List Entity → Controls → (ℕ → List ℤ) → ℕ → List ℤ
samples zero entities controls ins id = []
samples (suc n) entities controls ins id = samples_by entities controls ins (samples n entities controls ins) id

-- the samples on the wire of the entity with this id, one for each channel
unfoldable pub meaning : List Entity → Controls → (ℕ → List ℤ) → ℕ → List ℤ
meaning entities controls ins id = samples (length entities) entities controls ins id
