-- The frames on the wires of a signal graph.
use Rattle.std.specs.Prelude.{◌≡◌, ◌==◌, ℕ, Bool, true, if◌then◌else◌, ℤ, pos, List, [], replicate, Option, Some, length, unwrap_or}
use Rattle.std.specs.Map.{lookup}
use Rattle.std.specs.Option.{option_map}
use Rattle.uac_entities.specs.declared.entity.Entity.{Entity}
use Rattle.uac_topology_rules.specs.Clusters.{is_input}
use Rattle.uac_graph.specs.GraphControls.{Controls}
use Rattle.uac_graph.specs.Fitness.{wire_channels}
use Rattle.uac_graph.specs.Meaning.{entity, meaning}

-- frames by id
abbrev pub Frames : Type 0
Frames = List (ℕ × List ℤ)

-- the frame on the wire of the entity with this id, if it has a wire
abbrev pub frame_on : Frames → ℕ → Option (List ℤ)
frame_on frames id = lookup (λ k. id == k) frames

-- the frame, or no samples
abbrev pub samples_on : Frames → ℕ → List ℤ
samples_on frames id = unwrap_or (frame_on frames id) []

-- there is a wire for each entity that isn't a clock, with a sample for each of its channels
pub record AreWiresOf (entities : List Entity) (frames : Frames) : Type 0 where
  pub channels : (id : ℕ) → option_map length (frame_on frames id) ≡ wire_channels entities id

-- as many zeros
abbrev pub silence : ℕ → List ℤ
silence channels = replicate channels (pos 0)

-- each wire is silent
pub record AreSilent (entities : List Entity) (frames : Frames) : Type 0 where
  pub wires : (id : ℕ) → frame_on frames id ≡ option_map silence (wire_channels entities id)

-- the input terminals are given these frames
pub record AreGiven (entities : List Entity) (ins : ℕ → List ℤ) (frames : Frames) : Type 0 where
  pub inputs : (id : ℕ) → is_input (entity entities id).kind ≡ true → frame_on frames id ≡ Some (ins id)

-- these wires have their meaning's samples, and all others are as they were
pub record AreRendered (entities : List Entity) (controls : Controls) (ins : ℕ → List ℤ) (done : ℕ → Bool) (old new : Frames) : Type 0 where
  pub wires : (id : ℕ) → frame_on new id ≡ (if done id then Some (meaning entities controls ins id) else frame_on old id)
