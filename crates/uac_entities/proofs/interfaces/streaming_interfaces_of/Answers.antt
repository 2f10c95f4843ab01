use Rattle.std.proofs.Common.{◌≡◌, ◌++◌, List, Option, get_or, take, sym, ap, ◌∙◌}
use Rattle.std.specs.Option.{option_to_list}
use Rattle.std.specs.List.{filter_map}
use Rattle.uac_entities.specs.declared.stream.StreamInterface.{StreamInterface}
use Rattle.uac_entities.specs.EntityInterfaces.{streaming_interface_at}
use Rattle.uac_entities.proofs.ListFilterLemmas.{filter_map_more, blank}
use Rattle.uac_entities.proofs.interfaces.streaming_interfaces_of.Goals as goal

pub loop-declared-preserved : goal.loop-declared-preserved
loop-declared-preserved c =
    let l = c.loop-declared in
    let xs = c.args.all.now in
    let h = streaming_interface_at c.args.entities.now c.args.all.now in
    let kept : c.in_ok-stream.stream ≡ h (get_or xs l.declared-index blank) = c.in_ok-stream.ensures in
    c.in_ok-keep.ensures
    ∙ ap (λ (ys : List StreamInterface). ys ++ option_to_list (c.in_ok-stream.stream)) l.invariant
    ∙ ap (λ (o : Option StreamInterface). filter_map h (take l.declared-index xs) ++ option_to_list o) kept
    ∙ sym (filter_map_more h xs l.declared-index blank c.loop-declared-test.true)
