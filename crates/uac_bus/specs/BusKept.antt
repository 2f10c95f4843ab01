-- What the bus keeps, for which worlds it stands, and what a line is answered.
use Rattle.std.specs.Prelude.{◌≡◌, ℕ, List, Option, None, Result}
use Rattle.uac_script.specs.Phrase.{Phrase}
use Rattle.uac_units.specs.Hearing.{Reading}
use Rattle.uac_fault.specs.declared.fault.BusFault.{BusFault}
use Rattle.uac_rows.specs.BusWorld.{BusWorld, describing, running, step}
use Rattle.uac_rows.specs.BusSteps.{Does, may_want}
use Rattle.uac_rows.specs.Rows.{RunsAs}
use Rattle.uac_bus.specs.declared.bus.BusStage.{BusStage}
use Rattle.uac_bus.specs.declared.bus.BusStage.TheVariants as stages

-- what a bus is seen as: how far it is, and the fault that it answers from now on
pub record BusFields : Type 0 where
  pub stage : BusStage
  pub fault : Option BusFault

-- how far the bus is, and how far the world
abbrev pub BusStageStands : BusStage → List Reading → BusWorld → Type 0
BusStageStands (stages.Describing reader) meters (describing bytes shown) = (reader.taken ≡ bytes) × (reader.stop ≡ None) × (meters ≡ shown)
BusStageStands (stages.Describing reader) meters (running r) = ⊥
BusStageStands (stages.Running p) meters w = RunsAs p meters w

-- the bus, with meters that show this, stands for the world: it keeps no fault
pub record BusStands (bus : BusFields) (meters : List Reading) (w : BusWorld) : Type 0 where
  pub going : bus.fault ≡ None
  pub stage : BusStageStands bus.stage meters w

-- what a line that says this is answered in a world, and what it leaves
abbrev pub Answers : Phrase → BusWorld → BusFields → List Reading → Option (List ℕ) → Option (List ℕ) → Result (Unit {0}) BusFault → Type 0
Answers phrase w bus meters written written' result = Does (step phrase w) (may_want phrase w) (BusStands bus meters) written written'
    result
