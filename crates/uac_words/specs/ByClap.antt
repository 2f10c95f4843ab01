-- Profile: the words are read by `clap` as one simple command with a required COMMAND, a NUMBER that may be left out, and an option
-- `--rack` with one value, which is `plain` where it is left out. There are no help and version flags.
use Rattle.std.specs.Prelude.{◌≡◌, ◌≢◌, ◌⊎◌, ⊤, Bool, true, false, if◌then◌else◌, List, [], ◌∷◌, codes, Option, Some, None, Result, Ok, Err}
use Rattle.std.specs.Borrow.{Bor}
use Rattle.std.specs.Option.{option_map}
use Rattle.clap.specs.Words.{App, Kinds, Rule, Row, Text, new_app, new_rule, with_rule, fault_of, first_of, found_of, matches_of, rows_of}
use Rattle.clap.specs.declared.parser.matches.ArgMatches.{ArgMatches}
use Rattle.clap.specs.Simple.{on_top}
use Rattle.clap.specs.declared.builder.action.ArgAction.TheVariants.{Set}
use Rattle.uac_words.specs.declared.commands.Invocation.{Invocation}
use Rattle.uac_words.specs.declared.commands.WordsFault.{WordsFault}
use Rattle.uac_words.specs.declared.commands.WordsFault.TheVariants.{NoMemory, Usage}
use Rattle.uac_words.specs.Asked.{both, command_of, rack_named}

abbrev pub command_rule : Rule
command_rule = record (new_rule (codes "command")) { required = true; action = Some Set }

abbrev pub number_rule : Rule
number_rule = record (new_rule (codes "number")) { action = Some Set }

abbrev pub rack_rule : Rule
rack_rule = record (new_rule (codes "rack")) { long = Some (codes "rack"); action = Some Set; defaults = codes "plain" ∷ [] }

-- the words after the program's name are read: its name isn't among them
abbrev pub empty_command : App
empty_command = on_top
    (λ s. record s { no_binary_name = true; disable_help_flag = true; disable_version_flag = true })
    (new_app (codes "uac_cli"))

abbrev pub simple_command : App
simple_command = with_rule (with_rule (with_rule empty_command command_rule) number_rule) rack_rule

-- the text of a value, where there is one
abbrev pub now_in : Option (Bor Text) → Option Text
now_in = option_map (λ text. text.now)

-- what the values of COMMAND, NUMBER and the rack ask for
abbrev pub invocation_by : Option Text → Option Text → Option Text → Option Invocation
invocation_by (Some command) number (Some rack) = both (command_of command number) (rack_named rack)
invocation_by _ _ _ = None

abbrev pub invocation_by_rows : List Row → Option Invocation
invocation_by_rows rows = invocation_by (first_of (codes "command") rows) (first_of (codes "number") rows) (first_of (codes "rack") rows)

-- nothing is refused
abbrev pub none_refused : Kinds → Bool
none_refused [] = true
none_refused (kind ∷ more) = false

-- what the words ask for; none where the simple command refuses them, or their values ask for nothing
unfoldable pub invocation_of : List Text → Option Invocation
invocation_of words = if none_refused (fault_of simple_command words) then invocation_by_rows (matches_of simple_command words) else None

-- the answer to them, where there is memory
abbrev pub answer_to_words : Option Invocation → Result Invocation WordsFault
answer_to_words (Some words) = Ok words
answer_to_words None = Err Usage

-- the answer is right where words ask for this, or for nothing. Want of memory may come with any words
abbrev pub IsAnswer : Option Invocation → Result Invocation WordsFault → Type 0
IsAnswer invocation (Ok words) = invocation ≡ Some words
IsAnswer invocation (Err Usage) = invocation ≡ None
IsAnswer invocation (Err NoMemory) = ⊤

-- the simple command takes the words, and these are the values that it gives
abbrev pub HasMatched : List Text → ArgMatches → Type 0
HasMatched words m = (fault_of simple_command words ≡ []) × (rows_of (found_of m) ≡ matches_of simple_command words)

-- there was no memory, or the simple command refuses the words
abbrev pub IsRefused : List Text → WordsFault → Type 0
IsRefused words e = (e ≡ NoMemory) ⊎ (e ≡ Usage) × (fault_of simple_command words ≢ [])
