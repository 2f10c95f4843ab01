-- Profile: words that are read one after the other, and the bytes that one spells.
use Rattle.std.specs.Prelude.{ℕ, ◌==◌, if◌then◌else◌, List, [], ◌∷◌, length, Option, Some, None}
use Rattle.std.specs.Option.{option_and_then}
use Rattle.uac_lines.specs.Words.{Word, hex_of}

-- exactly one word
abbrev pub only_of : List Word → Option Word
only_of [] = None
only_of (word ∷ []) = Some word
only_of (word ∷ next ∷ words) = None

-- exactly two words
abbrev pub pair_of : List Word → Option (Word × Word)
pair_of [] = None
pair_of (word ∷ []) = None
pair_of (word ∷ next ∷ []) = Some (word, next)
pair_of (word ∷ next ∷ third ∷ words) = None

-- the eight setup bytes of a control transfer
abbrev pub setup_bytes_in : Word → Option (List ℕ)
setup_bytes_in word = option_and_then (λ bytes. if length bytes == 8 then Some bytes else None) (hex_of word)
