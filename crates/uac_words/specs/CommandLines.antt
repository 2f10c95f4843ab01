-- Profile: the command lines, as they are written.
use Rattle.std.specs.Prelude.{◌≡◌, ◌⊎◌, ◌^◌, ◌<◌, ⊤, true, List, [], ◌∷◌, ◌++◌, codes, decimal, Some, Result, Ok, Err}
use Rattle.std.specs.List.{AllByRecursion}
use Rattle.std.specs.Str.{IsUtf8}
use Rattle.uac_words.specs.declared.commands.Command.{Command}
use Rattle.uac_words.specs.declared.commands.Command.TheVariants.{Check, Show, Elements, Run, Gen, Full, Settle, Pair, Panel}
use Rattle.uac_words.specs.declared.commands.RackChoice.{RackChoice}
use Rattle.uac_words.specs.declared.commands.RackChoice.TheVariants.{Plain, Lanes}
use Rattle.uac_words.specs.declared.commands.Invocation.{Invocation}
use Rattle.uac_words.specs.declared.commands.WordsFault.{WordsFault}
use Rattle.uac_words.specs.declared.commands.WordsFault.TheVariants.{NoMemory, Usage}
use Rattle.uac_clock.specs.Nominal.{twelve_rates}
use Rattle.uac_words.specs.Table.{full_speed_rates}
use Rattle.uac_words.specs.Asked.{is_among}
use Rattle.uac_words.specs.ByClap.{invocation_of}
use Rattle.uac_words.specs.Plain.{CommandWord, plainly}

-- a command, as it is written: NUMBER and RATE are in decimal without leading zeros
abbrev pub command_words : Command → List CommandWord
command_words Check = codes "check" ∷ []
command_words Show = codes "show" ∷ []
command_words Elements = codes "elements" ∷ []
command_words Run = codes "run" ∷ []
command_words (Gen number) = codes "gen" ∷ decimal number ∷ []
command_words (Full rate) = codes "full" ∷ decimal rate ∷ []
command_words Settle = codes "settle" ∷ []
command_words (Pair rate) = codes "pair" ∷ decimal rate ∷ []
command_words Panel = codes "panel" ∷ []

-- a NUMBER has 32 bits, and a RATE is one of the command's
abbrev pub IsCommandInRange : Command → Type 0
IsCommandInRange (Gen number) = number < 2 ^ 32
IsCommandInRange Check = ⊤
IsCommandInRange Show = ⊤
IsCommandInRange Elements = ⊤
IsCommandInRange Run = ⊤
IsCommandInRange (Full rate) = is_among rate full_speed_rates ≡ true
IsCommandInRange Settle = ⊤
IsCommandInRange (Pair rate) = is_among rate twelve_rates ≡ true
IsCommandInRange Panel = ⊤

abbrev pub rack_name : RackChoice → CommandWord
rack_name Plain = codes "plain"
rack_name Lanes = codes "lanes"

-- the words that choose a rack: `--rack` and its name as two words, or as one with `=` between; none at all choose the plain one
abbrev pub Chooses : List CommandWord → RackChoice → Type 0
Chooses option rack =
    (option ≡ []) × (rack ≡ Plain) ⊎ ((option ≡ codes "--rack" ∷ rack_name rack ∷ []) ⊎ (option ≡ (codes "--rack=" ++ rack_name rack) ∷ []))

-- the words are the command's own, in their order, with those that choose the rack anywhere among them, and perhaps a word `--` anywhere
-- after those
pub record IsCommandLine (words : List CommandWord) (line : Invocation) : Type 0 where
  pub before : List CommandWord
  pub option : List CommandWord
  pub between : List CommandWord
  pub dashes : List CommandWord
  pub following : List CommandWord
  pub whole : words ≡ before ++ (option ++ (between ++ (dashes ++ following)))
  pub command : before ++ (between ++ following) ≡ command_words line.command
  pub range : IsCommandInRange line.command
  pub rack : Chooses option line.rack
  pub end : (dashes ≡ []) ⊎ (dashes ≡ codes "--" ∷ [])

-- each command line asks for its command over its rack
abbrev pub LinesAsk : Type 0
LinesAsk = (words : List CommandWord) (line : Invocation) → IsCommandLine words line → plainly words ≡ Some line

-- and no other words ask for anything
abbrev pub NothingElseAsks : Type 0
NothingElseAsks = (words : List CommandWord) (line : Invocation) → plainly words ≡ Some line → IsCommandLine words line

-- the answer to these words is right: a command line is answered by what it is, and what is no command line is refused. Want of
-- memory may come with any words
abbrev pub AnswersLine : List CommandWord → Result Invocation WordsFault → Type 0
AnswersLine words (Ok line) = IsCommandLine words line
AnswersLine words (Err Usage) = (line : Invocation) → ¬ (IsCommandLine words line)
AnswersLine words (Err NoMemory) = ⊤

-- by the simple command's own rules texts ask for the same
abbrev pub RulesAskTheSame : Type 0
RulesAskTheSame = (words : List CommandWord) → AllByRecursion IsUtf8 words → invocation_of words ≡ plainly words
