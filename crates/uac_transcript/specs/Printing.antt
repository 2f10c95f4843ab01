-- The text of lines, and what a call that prints them leaves in a sink (profile).
use Rattle.std.specs.Prelude.{ℕ, List, flat_map, Option, Result}
use Rattle.uac_edges.specs.Writing.{Writes}
use Rattle.uac_transcript.specs.Transcript.{Said, spelling_of}

-- the lines, one after the other
abbrev pub text_of : List Said → List ℕ
text_of lines = flat_map spelling_of lines

-- at Ok the lines were written, at Err a front of their text
abbrev pub Prints : {T E : Type 0} → Option (List ℕ) → Option (List ℕ) → Result T E → List Said → Type 0
Prints old new result lines = Writes old new result (text_of lines)
