-- The view's part of the world: what the host knows of the device's controls (profile).
use Rattle.std.specs.Prelude.{◌≡◌, ℤ, List, map}
use Rattle.uac_entities.specs.declared.entity.Entity.{Entity}
use Rattle.uac_store.specs.declared.keys.Key.{Key}
use Rattle.uac_store.specs.Keyed.{value_of}
use Rattle.uac_mixer.specs.declared.element.Element.{Element}
use Rattle.uac_mixer.specs.MixerElements.{element_list, with_no_value}

-- the view: the elements of the device's function, each with its value, or none where that is unknown
pub record ViewWorld : Type 0 where
  pub elements : List Element

-- an element with the device's value
abbrev pub read_from : List (Key × ℤ) → Element → Element
read_from controls x = record x { value = value_of controls x.key }

-- each element's value is the device's, which has these entities and these values of its controls
unfoldable pub known_view : List Entity → List (Key × ℤ) → ViewWorld
known_view entities controls = record { elements = map (read_from controls) (element_list entities) }

-- the view's elements are those of these entities
abbrev pub IsViewOf : List Entity → ViewWorld → Type 0
IsViewOf entities view = map with_no_value view.elements ≡ element_list entities
