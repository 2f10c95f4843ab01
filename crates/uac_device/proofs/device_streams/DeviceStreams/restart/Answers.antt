use Rattle.std.proofs.Common.{◌≡◌, ◌∙◌, Option, Some, None, ap, refl, subst, sym}
use Rattle.std.specs.Option.{option_and_then, option_map}
use Rattle.uac_alt.specs.AltStreams.{stream_fields}
use Rattle.uac_flow.specs.FlowStreams.{InStream, OutStream}
use Rattle.uac_device.specs.InterfaceStreams.{in_from, out_from, streams_replaced_at}
use Rattle.uac_device.specs.DeviceStreams.{DeviceStreamStands, device_stream_index}
use Rattle.uac_device.proofs.DeviceStreamsLemmas.{are_at, begins_nowhere, fits_stream, keeps_nowhere, ports_at, replaced_here, replaced_others, written_at}
use Rattle.uac_device.proofs.device_streams.DeviceStreams.restart.Goals as goal

pub invariant_of-self : goal.invariant_of-self
invariant_of-self c =
    are_at c.self.inside.list.items c.in-Some.index c.index_mut.result.now c.restart.new.self c.self.invariant c.restart.ensures.sound c.index_mut.ensures.value c.restart.ensures.turns.port

pub returns-in-Some-clause-stands : goal.returns-in-Some-clause-stands
returns-in-Some-clause-stands c outs ins keeps =
    let is : Some c.in-Some.index ≡ device_stream_index c.self.inside.list.items c.args.interface = cc (c.in-Some.ensures, c.self.view_is) in
    let out : Option OutStream = option_and_then out_from (option_map stream_fields c.args.begun) in
    let in_ : Option InStream = option_and_then in_from (option_map stream_fields c.args.begun) in
    written_at c.args.self.now c.self.inside.list.items outs (streams_replaced_at c.args.interface out outs) ins (streams_replaced_at c.args.interface in_ ins) c.args.interface c.in-Some.index
    c.index_mut.result.now c.restart.new.self c.self.view_is c.self.invariant keeps is c.index_mut.ensures.value c.restart.ensures.turns.port
    (λ kept.
    subst (λ (o : Option OutStream). DeviceStreamStands c.restart.new.self o (streams_replaced_at c.args.interface in_ ins c.args.interface)) (sym (replaced_here c.args.interface out outs))
    (subst (λ (i : Option InStream). DeviceStreamStands c.restart.new.self out i) (sym (replaced_here c.args.interface in_ ins))
    (c.restart.ensures.turns.stands (outs c.args.interface) (ins c.args.interface) kept)))
    (λ k other. (replaced_others c.args.interface out outs k other, replaced_others c.args.interface in_ ins k other))

pub returns-in-Some-clause-ports : goal.returns-in-Some-clause-ports
returns-in-Some-clause-ports c =
    ports_at c.args.self.now c.self.inside.list.items c.in-Some.index c.index_mut.result.now c.restart.new.self c.self.view_is c.index_mut.ensures.value c.restart.ensures.turns.port

pub restart-requires : goal.restart-requires
restart-requires c =
    let is : Some c.in-Some.index ≡ device_stream_index c.self.inside.list.items c.args.interface = cc (c.in-Some.ensures, c.self.view_is) in
    record {
      fits = fits_stream c.args.self.now c.self.inside.list.items c.args.interface c.in-Some.index c.index_mut.result.now c.args.begun c.self.view_is is c.index_mut.ensures.value c.requires.fits;
    }

pub returns-in-None-clause-stands : goal.returns-in-None-clause-stands
returns-in-None-clause-stands c outs ins keeps =
    let is : None ≡ device_stream_index c.args.self.now c.args.interface = c.in-None.ensures in
    let none = begins_nowhere c.args.self.now c.args.self.now c.args.interface c.args.begun refl is c.requires.fits in
    let was = keeps.none c.args.interface (sym is) in
    keeps_nowhere c.args.self.now outs (streams_replaced_at c.args.interface (option_and_then out_from (option_map stream_fields c.args.begun)) outs) ins
    (streams_replaced_at c.args.interface (option_and_then in_from (option_map stream_fields c.args.begun)) ins) c.args.interface (sym is) keeps (
      replaced_here c.args.interface (option_and_then out_from (option_map stream_fields c.args.begun)) outs ∙ ap (λ b. option_and_then out_from (option_map stream_fields b)) none ∙ sym was.0,
      replaced_here c.args.interface (option_and_then in_from (option_map stream_fields c.args.begun)) ins ∙ ap (λ b. option_and_then in_from (option_map stream_fields b)) none ∙ sym was.1,
    )
    (λ k other. (
      replaced_others c.args.interface (option_and_then out_from (option_map stream_fields c.args.begun)) outs k other,
      replaced_others c.args.interface (option_and_then in_from (option_map stream_fields c.args.begun)) ins k other,
    ))
