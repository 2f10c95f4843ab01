use Rattle.std.proofs.Common.{◌≡◌, take}
use Rattle.std.specs.List.{filter}
use Rattle.uac_streaming.specs.StreamingWorld.{comes_in}
use Rattle.uac_streaming.proofs.ways.inward.Given as goal

abbrev pub invariant-loop-interface : goal.invariant-loop-interface
invariant-loop-interface l = l.ins.items ≡ filter (comes_in l.function) (take l.interface-index l.order)
