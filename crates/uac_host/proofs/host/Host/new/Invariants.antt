use Rattle.std.proofs.Common.{◌≡◌, map, take}
use Rattle.uac_host.specs.HostKept.{resting_stream}
use Rattle.uac_host.proofs.host.Host.new.Given as goal

abbrev pub invariant-loop-stream : goal.invariant-loop-stream
invariant-loop-stream l = l.host_streams.items ≡ map (λ s. resting_stream s.number) (take l.stream-index l.stream-items)
