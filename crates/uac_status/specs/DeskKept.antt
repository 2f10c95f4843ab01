-- What a desk keeps, and for which worlds it stands.
use Rattle.std.specs.Prelude.{◌≡◌, Option, None}
use Rattle.uac_ends.specs.declared.fault.LineFault.{LineFault}
use Rattle.uac_status.specs.declared.desk.DeskStage.{DeskStage}
use Rattle.uac_status.specs.declared.desk.DeskStage.TheVariants as stages
use Rattle.uac_status.specs.Desks.{DeskWorld, describing, fronted}
use Rattle.uac_status.specs.FrontKept.{FrontAs}

-- what a desk is seen as: how far it is, and the fault that it answers from now on
pub record DeskFields : Type 0 where
  pub stage : DeskStage
  pub fault : Option LineFault

-- how far the desk is, and how far the world
abbrev pub StageStands : DeskStage → DeskWorld → Type 0
StageStands (stages.Describing reader) (describing bytes) = (reader.taken ≡ bytes) × (reader.stop ≡ None)
StageStands (stages.Describing reader) (fronted w) = ⊥
StageStands (stages.Running front) w = FrontAs front w

-- the desk stands for the world: it keeps no fault
pub record DeskStands (desk : DeskFields) (w : DeskWorld) : Type 0 where
  pub going : desk.fault ≡ None
  pub stage : StageStands desk.stage w
