-- The clock of an output terminal is a domain of its function.
use Rattle.std.proofs.Common.{◌≡◌, sym, refl, true}
use Rattle.std.proofs.lemmas.Bool.{true≢false}
use Rattle.uac_entities.specs.declared.entity.EntityKind.{EntityKind}
use Rattle.uac_entities.specs.declared.entity.EntityKind.TheVariants as kind
use Rattle.uac_entities.specs.declared.stream.StreamInterface.{StreamInterface}
use Rattle.uac_topology_rules.specs.Links.{is_terminal}
use Rattle.uac_topology_rules.specs.Rules.{is_output}
use Rattle.uac_topology.specs.Function.{FunctionFields}
use Rattle.uac_topology.specs.Topology.{IsSoundFunction}
use Rattle.uac_graph.specs.Meaning.{entity}
use Rattle.uac_streaming.proofs.AmongLemmas.{Among}
use Rattle.uac_levels.proofs.BandTransfersStartLemmas.{clock_known}

output_is_terminal : (k : EntityKind) → is_output k ≡ true → is_terminal k ≡ true
output_is_terminal kind.ClockSource is = absurd (true≢false (sym is))
output_is_terminal kind.ClockSelector is = absurd (true≢false (sym is))
output_is_terminal kind.ClockMultiplier is = absurd (true≢false (sym is))
output_is_terminal kind.InputTerminal is = absurd (true≢false (sym is))
output_is_terminal kind.OutputTerminal is = refl
output_is_terminal kind.Mixer is = absurd (true≢false (sym is))
output_is_terminal kind.Selector is = absurd (true≢false (sym is))
output_is_terminal kind.Feature is = absurd (true≢false (sym is))
output_is_terminal kind.Effect is = absurd (true≢false (sym is))

pub output_known : (function : FunctionFields) → IsSoundFunction function → (s : StreamInterface)
    → is_output (entity function.entities s.terminal).kind ≡ true → Among (entity function.entities s.terminal).clock function.domains
output_known function sound s output = clock_known is_output output_is_terminal refl function sound s output
