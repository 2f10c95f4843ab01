use Rattle.std.proofs.Common.{◌≡◌, Option, Some, refl, subst, sym}
use Rattle.uac_flow.specs.FlowStreams.{InStream}
use Rattle.uac_flow.specs.FlowWaits.{sent_more}
use Rattle.uac_device.specs.InterfaceStreams.{streams_changed_at}
use Rattle.uac_device.specs.DeviceStreams.{DeviceStreamStands, device_stream_index}
use Rattle.uac_device.proofs.DeviceStreamsLemmas.{are_at, changed_here, changed_others, ports_at, written_at}
use Rattle.uac_device.proofs.device_streams.DeviceStreams.drop_sent.Goals as goal

pub invariant_of-self : goal.invariant_of-self
invariant_of-self c =
    are_at c.self.inside.list.items c.in-Some.index c.index_mut.result.now c.drop_sent.new.self c.self.invariant c.drop_sent.ensures.sound c.index_mut.ensures.value c.drop_sent.ensures.port

pub returns-in-Some-clause-stands : goal.returns-in-Some-clause-stands
returns-in-Some-clause-stands c outs ins keeps there =
    let is : Some c.in-Some.index ≡ device_stream_index c.self.inside.list.items c.args.interface = cc (c.in-Some.ensures, c.into.ensures, c.self.view_is) in
    written_at c.args.self.now c.self.inside.list.items outs outs ins (streams_changed_at c.args.interface (sent_more c.args.count) ins) c.args.interface c.in-Some.index
    c.index_mut.result.now c.drop_sent.new.self c.self.view_is c.self.invariant keeps is c.index_mut.ensures.value c.drop_sent.ensures.port
    (λ kept.
    subst (λ (i : Option InStream). DeviceStreamStands c.drop_sent.new.self (outs c.args.interface) i) (sym (changed_here c.args.interface (sent_more c.args.count) ins))
    (c.drop_sent.ensures.stands (outs c.args.interface) (ins c.args.interface) kept there))
    (λ k other. (refl, changed_others c.args.interface (sent_more c.args.count) ins k other))

pub returns-in-Some-clause-ports : goal.returns-in-Some-clause-ports
returns-in-Some-clause-ports c =
    ports_at c.args.self.now c.self.inside.list.items c.in-Some.index c.index_mut.result.now c.drop_sent.new.self c.self.view_is c.index_mut.ensures.value c.drop_sent.ensures.port
