-- The script that a number generates (profile): none of its lines is refused, and what it gives to the device is steady.
use Rattle.std.specs.Prelude.{◌≡◌, ◌≢◌, ℕ, ◌^◌, ◌<◌, ◌≤◌, true, List, length, None, Ok}
use Rattle.std.specs.List.{All, AllByRecursion}
use Rattle.uac_units.specs.Hearing.{Reading}
use Rattle.uac_gen.specs.Generator.{generated_lines}
use Rattle.uac_gen.specs.GeneratedScript.{script_of}
use Rattle.uac_lines.specs.ScriptLines.{most_of_input, most_of_line}
use Rattle.uac_rows.specs.BusWorld.{finish_of}
use Rattle.uac_rows.specs.After.{After}
use Rattle.uac_promises.specs.Scripts.{after_texts, is_steady_in}

-- a line of a script: at most 4,096 bytes, none of them a newline
pub record IsLineOfScript (text : List ℕ) : Type 0 where
  pub short : length text ≤ most_of_line
  pub whole : All (λ b. b ≢ 10) text

-- each line is one of a script, and with their newlines they are fewer bytes than an input may have
pub record IsScript (number : ℕ) : Type 0 where
  pub lines : AllByRecursion IsLineOfScript (generated_lines number)
  pub fits : length (script_of number) < most_of_input

abbrev pub GeneratedScriptsAreScripts : Type 0
GeneratedScriptsAreScripts = (number : ℕ) → number < 2 ^ 32 → IsScript number

-- no line was refused, and the script may end there
pub record IsFinishedScript (a : After) : Type 0 where
  pub none_refused : a.refusal ≡ None
  pub ends : finish_of a.world ≡ Ok tt

-- each generated script is finished so, whatever the meters show
abbrev pub GeneratedScriptsAreDone : Type 0
GeneratedScriptsAreDone =
    (number : ℕ) (shown : List Reading) → number < 2 ^ 32 → IsFinishedScript (after_texts (generated_lines number) shown)

-- no clock is off by more than a thousandth, and no stream loses four feedback reports in succession
abbrev pub GeneratedScriptsAreSteady : Type 0
GeneratedScriptsAreSteady =
    (number : ℕ) (shown : List Reading) → number < 2 ^ 32 → is_steady_in (after_texts (generated_lines number) shown).world ≡ true
