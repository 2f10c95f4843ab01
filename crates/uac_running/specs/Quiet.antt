-- A running device whose ticks depend on no packet: those of several microframes may wait.
use Rattle.std.specs.Prelude.{◌≡◌, ℕ, zero, suc, ◌+◌, List, [], ◌∷◌, ◌++◌}
use Rattle.uac_device.specs.InterfaceStreams.{NoneRuns}
use Rattle.uac_units.specs.Hearing.{Reading, at_most_u64}
use Rattle.uac_running.specs.RunningWorld.{RunningWorld}
use Rattle.uac_running.specs.RunningKept.{RunningFields, RunningStands}
use Rattle.uac_transcript.specs.Transcript.{Said}
use Rattle.uac_device.specs.DeviceWorld.{after_advance, next_ticks}
use Rattle.uac_running.specs.Events.{number_said, tick_times}
use Rattle.uac_running.specs.EventTicks.{shown_from}

-- it has one domain and runs no stream
pub record IsIdle (domain : ℕ) (r : RunningWorld) : Type 0 where
  pub none : NoneRuns r.device.outs r.device.ins
  pub only : r.device.function.domains ≡ domain ∷ []

-- and prints at detail 0, so that no microframe says anything
pub record IsQuiet (domain : ℕ) (r : RunningWorld) : Type 0 where
  pub detail : r.detail ≡ 0
  pub idle : IsIdle domain r

-- so many ticks of its domain wait: what is kept stands for the world before them
pub record Waits (domain waiting : ℕ) (running : RunningFields) (shown : List Reading) (r : RunningWorld) : Type 0 where
  pub before : RunningWorld
  pub stands : RunningStands running shown before
  pub idle : IsIdle domain before
  pub done : r ≡ (tick_times waiting domain before).world

-- ---- microframes whose ticks are still to come

-- one more
abbrev pub gone_on : ℕ → RunningWorld → RunningWorld
gone_on domain r = record r { time = at_most_u64 (r.time + 1); device = after_advance domain r.device }

-- so many more
unfoldable pub gone_by : ℕ → ℕ → RunningWorld → RunningWorld
gone_by domain zero r = r
gone_by domain (suc n) r = gone_by domain n (gone_on domain r)

-- how often the domain ticks in each
unfoldable pub ticks_of_each : ℕ → ℕ → RunningWorld → List ℕ
ticks_of_each domain zero r = []
ticks_of_each domain (suc n) r = next_ticks domain r.device ∷ ticks_of_each domain n (gone_on domain r)

-- what microframes with so many ticks each say, after a time and after so many ticks of the world before all of them: each its number, and
-- then what its ticks played
unfoldable pub said_of_each : ℕ → List ℕ → ℕ → ℕ → RunningWorld → List Said
said_of_each domain [] time from r = []
said_of_each domain (t ∷ ts) time from r =
    number_said r.detail (at_most_u64 (time + 1)) ++ shown_from domain from t r ++ said_of_each domain ts (at_most_u64 (time + 1)) (from + t) r
