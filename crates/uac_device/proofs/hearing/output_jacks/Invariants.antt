use Rattle.std.proofs.Common.{◌≡◌, take}
use Rattle.uac_device.specs.DeviceTurns.{jacks_of}
use Rattle.uac_device.proofs.hearing.output_jacks.Given as goal

abbrev pub invariant-loop-entity : goal.invariant-loop-entity
invariant-loop-entity l = l.jacks.items ≡ jacks_of (take l.entity-index l.entities)
