use Rattle.std.proofs.Common.{◌≡◌, take}
use Rattle.uac_device.specs.DeviceKept.{DeviceStands}
use Rattle.uac_device.specs.DeviceWorld.{DeviceWorld}
use Rattle.uac_running.specs.Events.{after_one, after_jacks}
use Rattle.uac_device.proofs.ListChangeLemmas.{IsTurnedBelow}
use Rattle.uac_running.proofs.jacks.give_jacks.Given as goal

abbrev pub invariant-loop-jack : goal.invariant-loop-jack
invariant-loop-jack l = record {
  changed : IsTurnedBelow (after_one l.domain) l.jacks l.initial.jacks l.jack-index;
  stands : (w : DeviceWorld) → DeviceStands l.initial.device w → DeviceStands l.device (after_jacks l.domain (take l.jack-index l.initial.jacks) w);
  function : l.device.function ≡ l.initial.device.function;
}
