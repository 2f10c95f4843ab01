use Rattle.std.proofs.Common.{◌∙◌, ◌==◌, if◌then◌else◌, ap, sym, List, Some, None}
use Rattle.std.specs.List.{list_any}
use Rattle.uac_entities.specs.declared.stream.Setting.{Setting}
use Rattle.uac_alt.specs.AltStreams.{stream_of}
use Rattle.uac_device.proofs.StreamAskedLemmas.{number_is, unset}
use Rattle.uac_device.proofs.streams.stream_in.Goals as goal

pub returns-in-Some : goal.returns-in-Some
returns-in-Some c there =
    c.stream.ensures.value
    ∙ ap (stream_of c.args.function.now c.args.rate c.args.streaming.now.number) (number_is _ c.in-Some.number c.args.setting c.in-Some.ensures)

pub returns-in-None : goal.returns-in-None
returns-in-None c there =
    sym (unset c.args.function.now c.args.rate c.args.streaming.now c.args.setting there
    (c.in-None.ensures ∙ ap (λ (xs : List Setting). if list_any (λ t. t.number == c.args.setting) xs then Some c.args.setting else None) c.as_slice.ensures))
