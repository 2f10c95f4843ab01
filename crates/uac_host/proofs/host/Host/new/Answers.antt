-- A host stream at rest for each streaming interface.
use Rattle.std.proofs.Common.{◌∙◌, ap, arith, map, List}
use Rattle.std.proofs.lemmas.List.{take_all}
use Rattle.uac_entities.specs.declared.stream.StreamInterface.{StreamInterface}
use Rattle.uac_host.specs.HostKept.{resting_stream}
use Rattle.uac_host.proofs.HostKeptCallLemmas.{stands_fresh}
use Rattle.uac_host.proofs.host.Host.new.Goals as goal

pub returns : goal.returns
returns c =
    stands_fresh c.args.function.now c.loop-stream.host_streams.items
    (c.loop-stream.invariant
    ∙ ap (λ (streams : List StreamInterface). map (λ s. resting_stream s.number) streams) (take_all c.loop-stream.stream-index c.streams-stream-items.result.now (omega arith) ∙ c.streams-stream-items.ensures))
