use Rattle.std.proofs.Common.{◌≡◌, ◌*◌, ◌≤◌, List, take}
use Rattle.std.specs.List.{sum}
use Rattle.uac_units.specs.Hearing.{Reading}
use Rattle.uac_running.specs.RunningWorld.{RunningWorld}
use Rattle.uac_running.specs.RunningKept.{RunningStands}
use Rattle.uac_running.specs.Quiet.{gone_by, ticks_of_each}
use Rattle.uac_running.proofs.running.Running.pass_each.Given as goal

abbrev pub invariant-loop-index : goal.invariant-loop-index
invariant-loop-index l = record {
  stands : (meters : List Reading) (r : RunningWorld) → RunningStands l.fn.self meters r → RunningStands l.self meters (gone_by l.domain l.index r);
  first : (meters : List Reading) (r : RunningWorld) → RunningStands l.fn.self meters r → take l.index l.ticks ≡ ticks_of_each l.domain l.index r;
  all : l.waiting ≡ sum (take l.index l.ticks);
  few : l.waiting ≤ 27 * l.index;
  function : l.self.device.function ≡ l.fn.self.device.function;
  detail : l.self.detail ≡ l.fn.self.detail;
}
