use Rattle.std.proofs.Common.{◌≡◌, Option, Some, refl, subst, sym}
use Rattle.std.specs.Option.{option_map}
use Rattle.uac_flow.specs.FlowStreams.{OutStream, after_packet}
use Rattle.uac_device.specs.InterfaceStreams.{streams_changed_at}
use Rattle.uac_device.specs.DeviceStreams.{DeviceStreamStands, device_stream_index}
use Rattle.uac_device.proofs.DeviceStreamsLemmas.{are_at, asked_at, changed_here, changed_others, ports_at, written_at}
use Rattle.uac_device.proofs.device_streams.DeviceStreams.receive.Goals as goal

pub invariant_of-self : goal.invariant_of-self
invariant_of-self c =
    are_at c.self.inside.list.items c.in-Some.index c.index_mut.result.now c.receive.new.self c.self.invariant c.receive.ensures.sound c.index_mut.ensures.value c.receive.ensures.turns.port

pub returns-in-Some-clause-stands : goal.returns-in-Some-clause-stands
returns-in-Some-clause-stands c outs ins keeps =
    let is : Some c.in-Some.index ≡ device_stream_index c.self.inside.list.items c.args.interface = cc (c.in-Some.ensures, c.into.ensures, c.self.view_is) in
    let change : OutStream → OutStream = after_packet (option_map (λ p. p.now.items) c.args.packet) in
    written_at c.args.self.now c.self.inside.list.items outs (streams_changed_at c.args.interface change outs) ins ins c.args.interface c.in-Some.index
    c.index_mut.result.now c.receive.new.self c.self.view_is c.self.invariant keeps is c.index_mut.ensures.value c.receive.ensures.turns.port
    (λ kept.
    subst (λ (o : Option OutStream). DeviceStreamStands c.receive.new.self o (ins c.args.interface)) (sym (changed_here c.args.interface change outs))
    (c.receive.ensures.turns.stands (outs c.args.interface) (ins c.args.interface) kept))
    (λ k other. (changed_others c.args.interface change outs k other, refl))

pub returns-in-Some-clause-ports : goal.returns-in-Some-clause-ports
returns-in-Some-clause-ports c =
    ports_at c.args.self.now c.self.inside.list.items c.in-Some.index c.index_mut.result.now c.receive.new.self c.self.view_is c.index_mut.ensures.value c.receive.ensures.turns.port

pub returns-in-Some-clause-arrival : goal.returns-in-Some-clause-arrival
returns-in-Some-clause-arrival c outs ins keeps =
    let is : Some c.in-Some.index ≡ device_stream_index c.self.inside.list.items c.args.interface = cc (c.in-Some.ensures, c.into.ensures, c.self.view_is) in
    c.receive.ensures.arrival (outs c.args.interface) (ins c.args.interface)
    (asked_at c.args.self.now c.self.inside.list.items outs ins c.args.interface c.in-Some.index c.index_mut.result.now c.self.view_is keeps is c.index_mut.ensures.value)
