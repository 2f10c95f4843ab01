-- What a line of a running device is answered, and what it leaves.
use Rattle.std.specs.Prelude.{◌≡◌, ◌≢◌, ℕ, ◌≤◌, false, List, Result, IfErr, OnOk}
use Rattle.uac_edges.specs.Faults.{Rose}
use Rattle.uac_units.specs.Hearing.{Reading}
use Rattle.uac_running.specs.RunningKept.{RunningFields, RunningStandsBetween}
use Rattle.uac_fault.specs.declared.fault.BusFault.{BusFault}
use Rattle.uac_fault.specs.declared.fault.BusFault.TheVariants as faults
use Rattle.uac_rows.specs.BusWorld.{BusWorld, describing, running}
use Rattle.uac_rows.specs.BusSteps.{is_final}

-- a running device, with meters that show this, stands for the world, which is past the descriptor's end
abbrev pub RunsAs : RunningFields → List Reading → BusWorld → Type 0
RunsAs p meters (describing bytes shown) = ⊥
RunsAs p meters (running r) = RunningStandsBetween p meters r

-- What a fault leaves as it was: a rule of the script that is broken, what the line would have changed; any fault but a failed write, the
-- sink and the meters.
pub record Leaves {A B C : Type 0} (old new : A) (sink sink' : B) (meters meters' : C) (result : Result (Unit {0}) BusFault) : Type 0 where
  pub script : IfErr result (λ fault. is_final fault ≡ false → new ≡ old)
  pub unwritten : IfErr result (λ fault. fault ≢ faults.WriteFault → sink' ≡ sink)
  pub unheard : IfErr result (λ fault. fault ≢ faults.WriteFault → meters' ≡ meters)

-- A failed write has its cause in this call; the count of faults never falls, and where the line is done no write met one.
pub record HasWriteCause {T : Type 0} (old new : ℕ) (result : Result T BusFault) : Type 0 where
  pub cause : IfErr result (λ fault. fault ≡ faults.WriteFault → Rose old new)
  pub never_falls : old ≤ new
  pub faultless : OnOk result (new ≡ old)
