use Rattle.std.proofs.Common.{◌∙◌, ap, arith, map, List}
use Rattle.std.proofs.lemmas.List.{take_all}
use Rattle.uac_entities.specs.declared.stream.StreamInterface.{StreamInterface}
use Rattle.uac_streaming.specs.StreamingWorld.{nothing_met}
use Rattle.uac_streaming.proofs.streaming.none_met.Goals as goal

pub returns : goal.returns
returns c =
    c.loop-stream.invariant
    ∙ ap (λ (streams : List StreamInterface). map (λ s. nothing_met) streams)
    (take_all c.loop-stream._stream-index c.streams-stream-items.result.now (omega arith) ∙ c.streams-stream-items.ensures)
