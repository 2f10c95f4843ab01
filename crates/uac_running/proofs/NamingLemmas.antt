-- The channels of the streams to the device.
use Rattle.std.proofs.Common.{◌≡◌, ◌≢◌, ℕ, ◌==◌, true, Some, arith}
use Rattle.std.proofs.lemmas.Bool.{and_parts}
use Rattle.uac_entities.specs.declared.stream.StreamInterface.{StreamInterface}
use Rattle.uac_topology_rules.specs.Table.{at, index_of}
use Rattle.uac_topology.specs.Function.{FunctionFields, interface_in}
use Rattle.uac_topology.specs.FunctionKept.{HaveChannels}
use Rattle.uac_topology.specs.Topology.{IsSoundFunction}
use Rattle.uac_graph.specs.Meaning.{entity}
use Rattle.uac_alt.proofs.AltStreamsLemmas.{all_found}
use Rattle.uac_device.specs.Linked.{IsBusInput}
use Rattle.uac_device.proofs.DeviceKeptTickLemmas.{input_channels}
use Rattle.uac_device.proofs.LinkedLemmas.{linked}
use Rattle.uac_running.specs.RunningNames.{carries_out}

-- a stream to the device links to an input terminal, which puts out channels
pub out_has_channels : (function : FunctionFields) (number channels : ℕ) (s : StreamInterface) → IsSoundFunction function → HaveChannels function.entities
    → interface_in function number ≡ Some s → carries_out s ≡ true
    → channels ≡ (at function.entities (index_of function.entities s.terminal)).cluster.channels → channels ≢ 0
unfolding entity
out_has_channels function number channels s sound have there out is none =
    let input : IsBusInput (entity function.entities s.terminal) =
    all_found (λ (c : StreamInterface). c.out ≡ true → IsBusInput (entity function.entities c.terminal)) (λ c. c.number == number) function.streams s
    (linked function sound).inputs there (and_parts s.out _ out).0 in
    let some = (input_channels function.entities s.terminal have input.0).0 in
    omega (arith, some, is, none)
