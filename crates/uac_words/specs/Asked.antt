-- Profile: what COMMAND, NUMBER and the name of a rack ask for.
use Rattle.std.specs.Prelude.{ℕ, ◌==◌, ◌&&◌, ◌||◌, not, nat_lt, nat_le, Bool, if◌then◌else◌, List, [], ◌∷◌, length, slice_index, codes, Option, Some}
use Rattle.std.specs.Prelude.{None}
use Rattle.std.specs.List.{list_all, list_any}
use Rattle.std.specs.Char.{is_ascii_digit}
use Rattle.std.specs.Str.{bytes_eq}
use Rattle.std.specs.Option.{option_and_then, option_map}
use Rattle.std.specs.Str.Parse.{digits_value}
use Rattle.uac_words.specs.declared.commands.Command.{Command}
use Rattle.uac_words.specs.declared.commands.RackChoice.{RackChoice}
use Rattle.uac_words.specs.declared.commands.RackChoice.TheVariants.{Plain, Lanes}
use Rattle.uac_words.specs.declared.commands.Invocation.{Invocation}
use Rattle.uac_words.specs.Table.{CommandRow, alone, with_number, with_rate, command_rows}

-- one decimal digit or more and nothing else; a 0 stands in front only where it stands alone
unfoldable pub is_decimal : List ℕ → Bool
is_decimal text = nat_lt 0 (length text) && (not (slice_index text 0 == 48) || length text == 1) && list_all is_ascii_digit text

-- the NUMBER that a word spells: a decimal number of 0 to 4294967295 without leading zeros
unfoldable pub decimal_value_of : List ℕ → Option ℕ
decimal_value_of text = if is_decimal text && nat_le (digits_value 10 text) 4294967295 then Some (digits_value 10 text) else None

-- it is one of these
abbrev pub is_among : ℕ → List ℕ → Bool
is_among rate rates = list_any (λ listed. listed == rate) rates

-- the RATE of these that a word spells
abbrev pub rate_of : List ℕ → List ℕ → Option ℕ
rate_of rates text = option_and_then (λ rate. if is_among rate rates then Some rate else None) (decimal_value_of text)

-- the command of this name among the rows, of those that take nothing
abbrev pub named_in : List CommandRow → List ℕ → Option Command
named_in [] word = None
named_in (alone name command ∷ rows) word = if bytes_eq word name then Some command else named_in rows word
named_in (with_number name command ∷ rows) word = named_in rows word
named_in (with_rate name rates command ∷ rows) word = named_in rows word

-- the command of this name among the rows with this NUMBER or RATE, of those that take one
abbrev pub numbered_in : List CommandRow → List ℕ → List ℕ → Option Command
numbered_in [] word number = None
numbered_in (alone name command ∷ rows) word number = numbered_in rows word number
numbered_in (with_number name command ∷ rows) word number =
    if bytes_eq word name then option_map command (decimal_value_of number) else numbered_in rows word number
numbered_in (with_rate name rates command ∷ rows) word number =
    if bytes_eq word name then option_map command (rate_of rates number) else numbered_in rows word number

abbrev pub command_named : List ℕ → Option Command
command_named word = named_in command_rows word

abbrev pub command_with : List ℕ → List ℕ → Option Command
command_with word number = numbered_in command_rows word number

abbrev pub command_of : List ℕ → Option (List ℕ) → Option Command
command_of word None = command_named word
command_of word (Some number) = command_with word number

-- the rack of this name
abbrev pub rack_named : List ℕ → Option RackChoice
rack_named word =
    if bytes_eq word (codes "plain") then Some Plain
    else if bytes_eq word (codes "lanes") then Some Lanes
    else None

-- a command and a rack, where there are both
abbrev pub both : Option Command → Option RackChoice → Option Invocation
both (Some command) (Some rack) = Some (record { command = command; rack = rack })
both _ _ = None
