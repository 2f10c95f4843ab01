use Rattle.std.proofs.Common.{◌≡◌, map, take}
use Rattle.std.specs.List.{filter}
use Rattle.uac_device.specs.DeviceWorld.{is_input_jack}
use Rattle.uac_running.specs.RunningWorld.{silent_jack}
use Rattle.uac_running.proofs.jacks.silent_jacks.Given as goal

abbrev pub invariant-loop-entity : goal.invariant-loop-entity
invariant-loop-entity l = l.jacks.items ≡ map silent_jack (filter is_input_jack (take l.entity-index l.entities))
