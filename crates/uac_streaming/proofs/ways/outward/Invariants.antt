use Rattle.std.proofs.Common.{◌≡◌, take}
use Rattle.std.specs.List.{filter}
use Rattle.uac_streaming.specs.StreamingWorld.{goes_out}
use Rattle.uac_streaming.proofs.ways.outward.Given as goal

abbrev pub invariant-loop-interface : goal.invariant-loop-interface
invariant-loop-interface l = l.outs.items ≡ filter (goes_out l.function) (take l.interface-index l.order)
