use Rattle.std.proofs.Common.{◌≡◌, Option, Some, subst, sym}
use Rattle.std.specs.Option.{option_map}
use Rattle.uac_flow.specs.FlowStreams.{InStream, OutStream, in_after_end, out_after_end}
use Rattle.uac_device.specs.InterfaceStreams.{streams_changed_at}
use Rattle.uac_device.specs.DeviceStreams.{DeviceStreamStands, device_stream_index}
use Rattle.uac_device.proofs.DeviceStreamsLemmas.{are_at, changed_here, changed_others, ports_at, written_at}
use Rattle.uac_device.proofs.device_streams.DeviceStreams.end_microframe.Goals as goal

pub invariant_of-self : goal.invariant_of-self
invariant_of-self c =
    are_at c.self.inside.list.items c.in-Some.index c.index_mut.result.now c.end_microframe.new.self c.self.invariant c.end_microframe.ensures.sound c.index_mut.ensures.value c.end_microframe.ensures.port

pub returns-in-Some-clause-stands : goal.returns-in-Some-clause-stands
returns-in-Some-clause-stands c outs ins keeps fits =
    let is : Some c.in-Some.index ≡ device_stream_index c.self.inside.list.items c.args.interface = cc (c.in-Some.ensures, c.into.ensures, c.self.view_is) in
    written_at c.args.self.now c.self.inside.list.items outs (streams_changed_at c.args.interface out_after_end outs) ins (streams_changed_at c.args.interface in_after_end ins) c.args.interface c.in-Some.index
    c.index_mut.result.now c.end_microframe.new.self c.self.view_is c.self.invariant keeps is c.index_mut.ensures.value c.end_microframe.ensures.port
    (λ kept.
    subst (λ (o : Option OutStream). DeviceStreamStands c.end_microframe.new.self o (streams_changed_at c.args.interface in_after_end ins c.args.interface)) (sym (changed_here c.args.interface out_after_end outs))
    (subst (λ (i : Option InStream). DeviceStreamStands c.end_microframe.new.self (option_map out_after_end (outs c.args.interface)) i) (sym (changed_here c.args.interface in_after_end ins))
    (c.end_microframe.ensures.stands (outs c.args.interface) (ins c.args.interface) kept fits)))
    (λ k other. (changed_others c.args.interface out_after_end outs k other, changed_others c.args.interface in_after_end ins k other))

pub returns-in-Some-clause-ports : goal.returns-in-Some-clause-ports
returns-in-Some-clause-ports c =
    ports_at c.args.self.now c.self.inside.list.items c.in-Some.index c.index_mut.result.now c.end_microframe.new.self c.self.view_is c.index_mut.ensures.value c.end_microframe.ensures.port
