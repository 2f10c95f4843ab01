-- Profile: the commands that are there, and how the program is used.
use Rattle.std.specs.Prelude.{ℕ, nat_le, List, [], ◌∷◌, ◌++◌, codes, filter, map}
use Rattle.uac_clock.specs.Nominal.{twelve_rates}
use Rattle.uac_words.specs.declared.commands.Command.{Command}
use Rattle.uac_words.specs.declared.commands.Command.TheVariants.{Check, Show, Elements, Run, Gen, Full, Settle, Pair, Panel}

-- a command's word, and the command; or the word of one that takes a NUMBER, and the command with that; or of one that takes a RATE, one of
-- these
pub data CommandRow : Type 0 where
  alone : List ℕ → Command → CommandRow
  with_number : List ℕ → (ℕ → Command) → CommandRow
  with_rate : List ℕ → List ℕ → (ℕ → Command) → CommandRow

-- a full-speed stream has one of the rates up to 96,000 Hz
abbrev pub full_speed_rates : List ℕ
full_speed_rates = filter (λ rate. nat_le rate 96000) twelve_rates

abbrev pub command_rows : List CommandRow
command_rows =
    alone (codes "check") Check
    ∷ alone (codes "show") Show
    ∷ alone (codes "elements") Elements
    ∷ alone (codes "run") Run
    ∷ with_number (codes "gen") Gen
    ∷ with_rate (codes "full") full_speed_rates Full
    ∷ alone (codes "settle") Settle
    ∷ with_rate (codes "pair") twelve_rates Pair
    ∷ alone (codes "panel") Panel
    ∷ []

-- a row in the usage line
abbrev pub row_text : CommandRow → List ℕ
row_text (alone word command) = word
row_text (with_number word command) = word ++ codes " NUMBER"
row_text (with_rate word rates command) = word ++ codes " RATE"

-- texts with a bar between one and the next
abbrev pub with_bars : List (List ℕ) → List ℕ
with_bars [] = []
with_bars (text ∷ []) = text
with_bars (text ∷ next ∷ texts) = text ++ (codes "|" ++ with_bars (next ∷ texts))

-- how the program is used: the words of all commands, and the racks
abbrev pub usage_line : List ℕ
usage_line = codes "usage: uac_cli " ++ (with_bars (map row_text command_rows) ++ codes " [--rack plain|lanes]\n")
