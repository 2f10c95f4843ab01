use Rattle.std.proofs.Common.{◌+◌, ◌*◌, ◌++◌, flat_map, ap, ◌∙◌, arith}
use Rattle.uac_descriptor.specs.Spelling.{spelling}
use Rattle.uac_gen.specs.GeneratedDescriptor.{units_of}
use Rattle.uac_gen.proofs.GeneratedDescriptorLemmas.{descriptor_is, output_bytes, stream_bytes}
use Rattle.uac_gen.proofs.descriptor.descriptor.Goals as goal

pub returns : goal.returns
returns c =
    let count = c.args.count in
    let control = 46 + 17 * c.from.result + c.from-2.result in
    c.push-2.ensures.text
    ∙ ap (λ bytes. bytes ++ stream_bytes)
    (c.push.ensures.text
    ∙ ap (λ bytes. bytes ++ output_bytes count)
    (c.push_units.ensures.units ∙ ap (λ bytes. bytes ++ flat_map spelling (units_of count)) c.front-bytes.ensures.front))
    ∙ descriptor_is (88 + control) control count (omega (arith, c.from.ensures, c.from-2.ensures)) (omega (arith, c.from.ensures, c.from-2.ensures))
