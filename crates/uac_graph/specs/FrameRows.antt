-- Frames in a row that has a slot for each id.
use Rattle.std.specs.Prelude.{ℕ, suc, ℤ, List, [], ◌∷◌, Option, Some, None}
use Rattle.uac_graph.specs.Wiring.{Frames}

-- the frames that stand in a row, each by its slot, which counts from this number
unfoldable pub row_frames : ℕ → List (Option (List ℤ)) → Frames
row_frames n [] = []
row_frames n (None ∷ row) = row_frames (suc n) row
row_frames n (Some frame ∷ row) = (n, frame) ∷ row_frames (suc n) row

-- the frames of a row, numbered from 0 on
abbrev pub numbered_frames : List (Option (List ℤ)) → Frames
numbered_frames row = row_frames 0 row

-- what stands in a slot that is to have another's frame: that frame, where there is one in both
abbrev pub slot_after_passing : {X : Type 0} → Option X → Option X → Option X
slot_after_passing (Some frame) (Some held) = Some frame
slot_after_passing (Some frame) None = None
slot_after_passing None slot = slot
