use Rattle.std.proofs.Common.{List, ap, subst, flat_map}
use Rattle.uac_edges.specs.Writing.{AppendsFront}
use Rattle.uac_edges.proofs.WritingLemmas.{front_of_each, Writes-handed_on}
use Rattle.uac_entities.specs.declared.stream.StreamInterface.{StreamInterface}
use Rattle.uac_listing.specs.SettingLines.{interface_lines}
use Rattle.uac_listing.proofs.settings.write_settings.Goals as goal

pub returns-in_err-write_interface-clause-written : goal.returns-in_err-write_interface-clause-written
returns-in_err-write_interface-clause-written g c =
    Writes-handed_on _ (g.K.Sink.written c.args.sink.now) (g.K.Sink.written c.write_interface.new.sink) c.from_residual.result _ c.from_residual.ensures.1 (
    subst (λ (streams : List StreamInterface). AppendsFront (g.K.Sink.written c.args.sink.now) (g.K.Sink.written c.write_interface.new.sink) (flat_map (interface_lines c.args.function.now c.args.store.now) streams))
    c.loop-stream.invariant.items
    (front_of_each _ _ _ (interface_lines c.args.function.now c.args.store.now) c.streams-stream-items.result.now c.loop-stream.stream-index c.stream-item.result _
    c.loop-stream-test.true c.loop-stream.invariant.written c.in_err-write_interface.ensures.written (ap (interface_lines c.args.function.now c.args.store.now) c.stream-item.is))
    )
