use Rattle.std.proofs.Common.{◌==◌, List, slice_get, ◌∙◌, sym, ap}
use Rattle.uac_entities.specs.declared.stream.StreamInterface.{StreamInterface}
use Rattle.uac_topology.proofs.FunctionFoundLemmas.{found_at, found_nowhere, looked_up}
use Rattle.uac_topology.proofs.function.Function.interface_numbered.Goals as goal

pub returns-in-Some : goal.returns-in-Some
returns-in-Some c =
    looked_up _ _ _ c.get.ensures.lookup.0 c.get.ensures.lookup.1
    ∙ ap (λ (ss : List StreamInterface). slice_get ss c.in-Some.index) c.streams.ensures
    ∙ found_at (λ (s : StreamInterface). s.number == c.args.number) _ _ (sym c.stream_numbered.ensures ∙ c.in-Some.is)

pub returns-in-None : goal.returns-in-None
returns-in-None c = found_nowhere (λ (s : StreamInterface). s.number == c.args.number) _ (sym c.stream_numbered.ensures ∙ c.in-None.is)
