-- What the descriptor's end is answered.
use Rattle.std.specs.Prelude.{ℕ, true, List, Option, Result, Ok, Err}
use Rattle.uac_units.specs.Hearing.{Reading}
use Rattle.uac_running.specs.RunningKept.{RunningFields}
use Rattle.uac_fault.specs.declared.fault.BusFault.{BusFault}
use Rattle.uac_rows.specs.BusWorld.{Step}
use Rattle.uac_rows.specs.BusSteps.{Reaches, Prevents}
use Rattle.uac_rows.specs.Rows.{RunsAs}

-- what the descriptor's end is answered: the running device stands for the next world
abbrev pub BeginsRunning : Step → List Reading → Option (List ℕ) → Option (List ℕ) → Result RunningFields BusFault → Type 0
BeginsRunning step shown written written' (Ok p) = Reaches step (RunsAs p shown) written written'
BeginsRunning step shown written written' (Err fault) = Prevents fault true step written written'
