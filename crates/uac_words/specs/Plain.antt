-- Profile: what a command line may look like, said of the words themselves, one after the other.
use Rattle.std.specs.Prelude.{ℕ, ◌==◌, Bool, true, false, if◌then◌else◌, List, [], ◌∷◌, take, drop, codes, Option, Some, None}
use Rattle.std.specs.Option.{option_map}
use Rattle.std.specs.Str.{bytes_eq}
use Rattle.uac_words.specs.declared.commands.Command.{Command}
use Rattle.uac_words.specs.declared.commands.RackChoice.{RackChoice}
use Rattle.uac_words.specs.declared.commands.RackChoice.TheVariants.{Plain}
use Rattle.uac_words.specs.declared.commands.Invocation.{Invocation}
use Rattle.uac_words.specs.Asked.{both, command_named, command_with, rack_named}

abbrev pub CommandWord : Type 0
CommandWord = List ℕ

-- the words in their places: those for COMMAND and NUMBER, and the values of `--rack`, each in their order
pub record PartedWords : Type 0 where
  pub bare : List CommandWord
  pub racks : List CommandWord

abbrev pub with_bare : CommandWord → PartedWords → PartedWords
with_bare word parts = record parts { bare = word ∷ parts.bare }

abbrev pub with_rack : CommandWord → PartedWords → PartedWords
with_rack word parts = record parts { racks = word ∷ parts.racks }

-- the word begins with a hyphen (45), and isn't a hyphen alone
abbrev pub is_dashed : CommandWord → Bool
is_dashed [] = false
is_dashed (byte ∷ []) = false
is_dashed (byte ∷ rest) = byte == 45

abbrev pub ends_options : CommandWord → Bool
ends_options word = bytes_eq word (codes "--")

abbrev pub is_option : CommandWord → Bool
is_option word = bytes_eq word (codes "--rack")

-- the word is `--rack=` with a value after it
abbrev pub has_rack_value : CommandWord → Bool
has_rack_value word = bytes_eq (take 7 word) (codes "--rack=")

-- the words in their parts; `waits` says that the word before was `--rack`, whose value comes next. Any other dashed word is refused,
-- until a word `--`, after which nothing is an option
abbrev pub parted_words_of : Bool → List CommandWord → Option PartedWords
parted_words_of true [] = None
parted_words_of true (word ∷ rest) = if is_dashed word then None else option_map (with_rack word) (parted_words_of false rest)
parted_words_of false [] = Some (record { bare = []; racks = [] })
parted_words_of false (word ∷ rest) =
    if ends_options word then Some (record { bare = rest; racks = [] })
    else if is_option word then parted_words_of true rest
    else if has_rack_value word then option_map (with_rack (drop 7 word)) (parted_words_of false rest)
    else if is_dashed word then None
    else option_map (with_bare word) (parted_words_of false rest)

-- COMMAND alone, or COMMAND and NUMBER, and nothing more
abbrev pub command_in : List CommandWord → Option Command
command_in [] = None
command_in (word ∷ []) = command_named word
command_in (word ∷ number ∷ []) = command_with word number
command_in (word ∷ number ∷ more) = None

-- the rack, which is named once, or not at all and is the plain one
abbrev pub rack_in : List CommandWord → Option RackChoice
rack_in [] = Some Plain
rack_in (word ∷ []) = rack_named word
rack_in (word ∷ more) = None

abbrev pub invocation_at : Option PartedWords → Option Invocation
invocation_at None = None
invocation_at (Some parts) = both (command_in parts.bare) (rack_in parts.racks)

-- what the words ask for
unfoldable pub plainly : List CommandWord → Option Invocation
plainly words = invocation_at (parted_words_of false words)
