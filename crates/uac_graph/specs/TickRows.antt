-- The frames of several ticks on the wires of a signal graph: rows by id.
use Rattle.std.specs.Prelude.{◌≡◌, ℕ, ℤ, List, Option, Some, None, get_or, length, map}
use Rattle.std.specs.Option.{option_map}
use Rattle.uac_entities.specs.declared.entity.Entity.{Entity}
use Rattle.uac_units.specs.SampleRows.{HaveTicks, frame_at, row_lengths}
use Rattle.uac_graph.specs.FrameRows.{numbered_frames}
use Rattle.uac_graph.specs.Wiring.{AreWiresOf, Frames}

-- a slot for each id, with the rows of the entity's channels
abbrev pub RowSlots : Type 0
RowSlots = List (Option (List (List ℤ)))

-- rows by id, each with a sample at so many ticks
pub record RowsById : Type 0 where
  pub room : ℕ
  pub slots : RowSlots

-- the frames of a tick
abbrev pub slot_frames : ℕ → RowSlots → Frames
slot_frames tick slots = numbered_frames (map (option_map (frame_at tick)) slots)

abbrev pub frames_at : ℕ → RowsById → Frames
frames_at tick rows = slot_frames tick rows.slots

-- how long each row is
abbrev pub slot_lengths : RowSlots → List (Option (List ℕ))
slot_lengths slots = map (option_map row_lengths) slots

-- each row has a sample at each of so many ticks
abbrev pub SlotsHaveTicks : ℕ → RowSlots → Type 0
SlotsHaveTicks ticks slots = (id : ℕ) (rows : List (List ℤ)) → get_or slots id None ≡ Some rows → HaveTicks ticks rows

-- at each tick, there is a wire for each entity that isn't a clock, with a sample for each of its channels
abbrev pub AreRowsOf : List Entity → RowsById → Type 0
AreRowsOf entities rows = (tick : ℕ) → AreWiresOf entities (frames_at tick rows)

-- there is a slot for each id, and 256 more rows, for the inputs of what is rendered, all with so many ticks
pub record HaveRoom (room : ℕ) (slots : RowSlots) (pins : List (List ℤ)) : Type 0 where
  pub ids : length slots ≡ 256
  pub given : SlotsHaveTicks room slots
  pub most : length pins ≡ 256
  pub taken : HaveTicks room pins
