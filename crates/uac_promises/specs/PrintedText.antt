-- What the text of a script's lines tells (profile).
use Rattle.std.specs.Prelude.{ℕ, List, Result}
use Rattle.uac_script.specs.Phrase.{Phrase}
use Rattle.uac_transcript.specs.Spellings.{IsReadBack}
use Rattle.uac_rows.specs.BusWorld.{BusWorld}
use Rattle.uac_rows.specs.After.{after}

-- the text that lines of a script print, whatever they say and whatever world they begin in, tells the printed lines, cut at its newlines
abbrev pub TextsAreReadBack : Type 0
TextsAreReadBack = (saids : List (Result Phrase ℕ)) (w : BusWorld) → IsReadBack (after saids w).lines
