use Rattle.std.proofs.Common.{◌∙◌, ap, arith, map, sym, subst, List}
use Rattle.std.proofs.lemmas.List.{take_all}
use Rattle.uac_entities.specs.declared.stream.StreamInterface.{StreamInterface}
use Rattle.uac_device.specs.DeviceStreams.{AreDeviceStreams, idle_stream, port_of}
use Rattle.uac_device.proofs.DeviceStreamsLemmas.{are_idle}
use Rattle.uac_device.proofs.device_streams.DeviceStreams.new.Goals as goal

pub invariant_of-result : goal.invariant_of-result
invariant_of-result c =
    subst AreDeviceStreams
    (sym (c.loop-stream.invariant
    ∙ ap (λ (streams : List StreamInterface). map (λ s. idle_stream (port_of c.args.function.now.entities s)) streams)
    (take_all c.loop-stream.stream-index c.streams-stream-items.result.now (omega arith) ∙ c.streams-stream-items.ensures)))
    (are_idle c.args.function.now (c.interfaces_are_numbered.ensures c.args.function.now c.functions_are_sound.ensures))

pub returns : goal.returns
returns c =
    c.loop-stream.invariant
    ∙ ap (λ (streams : List StreamInterface). map (λ s. idle_stream (port_of c.args.function.now.entities s)) streams)
    (take_all c.loop-stream.stream-index c.streams-stream-items.result.now (omega arith) ∙ c.streams-stream-items.ensures)
