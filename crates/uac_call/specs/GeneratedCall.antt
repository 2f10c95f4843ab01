-- What `gen` prints: its script is done to the end, and is steady (profile).
use Rattle.std.specs.Prelude.{◌≡◌, ℕ, ◌<◌, ◌^◌, List, map}
use Rattle.uac_units.specs.Hearing.{Reading}
use Rattle.uac_gen.specs.Generator.{generated_lines}
use Rattle.uac_gen.specs.GeneratedScript.{script_of}
use Rattle.uac_rows.specs.BusWorld.{start}
use Rattle.uac_promises.specs.Promises.{IsAsPromised}
use Rattle.uac_ends.specs.Outcome.{at_end, finished}
use Rattle.uac_runner.specs.Machine.{after}
use Rattle.uac_runner.specs.Transcript.{ends, transcript, with_lines_first}
use Rattle.uac_scripts.specs.BusMachine.{AreByTable, Sayings, bus_machine}

-- a number's script prints the lines of all its lines, by what each says, and nothing else, with status Ok, and every line that it prints
-- is as promised of steady scripts: no ring is found empty or without room
pub record RunsWhole (number : ℕ) (shown : List Reading) : Type 0 where
  pub says : Sayings
  pub by_table : AreByTable says
  pub transcript_is :
      transcript (bus_machine says) (start shown) (script_of number) at_end
      ≡ with_lines_first (after (bus_machine says).step (generated_lines number) (start shown)).lines
      (ends finished (after (bus_machine says).step (generated_lines number) (start shown)).world)
  pub promised : IsAsPromised (map says (generated_lines number)) shown

abbrev pub GeneratedScriptsRunWhole : Type 0
GeneratedScriptsRunWhole = (number : ℕ) (shown : List Reading) → number < 2 ^ 32 → RunsWhole number shown
