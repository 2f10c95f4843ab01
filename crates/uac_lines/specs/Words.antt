-- Profile: the words of a script line, parted by one space each, and the bytes that HEX spells.
use Rattle.std.specs.Prelude.{ℕ, ◌+◌, ◌==◌, Bool, true, List, [], ◌∷◌, length, Option, Some, None}
use Rattle.std.specs.List.{slice_split}
use Rattle.std.specs.Result.{result_ok}
use denote.Ref.{Bor}
use Rattle.hex.specs.Hex.{decode_of}

-- a word: bytes, none of them a space
abbrev pub Word : Type 0
Word = List ℕ

-- the text, cut at each space: joined by one space each, the words give the text back
abbrev pub words_of : List ℕ → List Word
words_of text = slice_split (λ b. b == 32) text

-- the line does nothing: it is empty, or it begins with `#`
abbrev pub is_idle : List ℕ → Bool
is_idle [] = true
is_idle (c ∷ rest) = c == 35

-- the bytes that HEX spells: a positive even number of digits of either case
abbrev pub hex_of : Word → Option (List ℕ)
hex_of [] = None
hex_of (digit ∷ digits) = result_ok (decode_of (digit ∷ digits))

-- ---- a reader's place in the text

-- the words that are left, where `rest` is the text from the next word on
abbrev pub words_left : Option (Bor (List ℕ)) → List Word
words_left None = []
words_left (Some rest) = words_of rest.now

-- the bytes that are left, each word with the byte after it
abbrev pub bytes_left : Option (Bor (List ℕ)) → ℕ
bytes_left None = 0
bytes_left (Some rest) = length rest.now + 1

abbrev pub pair_now : Option (Bor (List ℕ) × Bor (List ℕ)) → Option (Word × Word)
pair_now None = None
pair_now (Some pair) = Some (pair.0.now, pair.1.now)
