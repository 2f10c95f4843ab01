-- Samples that are whole frames of a stream to the device, as the host takes them.
use Rattle.std.proofs.Common.{◌≡◌, ℕ, ◌%◌, ◌==◌, ◌&&◌, ℤ, true, false, List, length, Option, Some, None}
use Rattle.std.specs.Option.{option_map_or}
use Rattle.std.proofs.lemmas.Bool.{and_parts, eqb-true}
use Rattle.uac_entities.specs.EntityInterfaces.{channels_of}
use Rattle.uac_entities.specs.declared.stream.StreamInterface.{StreamInterface}
use Rattle.uac_topology.specs.Function.{FunctionFields, interface_in}
use Rattle.uac_alt.specs.AltStreams.{linked_channels}
use Rattle.uac_host.specs.HostCalls.{AreWhole, channels_at}
use Rattle.uac_running.specs.RunningNames.{are_frames, carries_out}

-- samples that are frames of the line's interface are whole for the host
pub are_whole : (function : FunctionFields) (number : ℕ) (samples : List ℤ) → are_frames function number (length samples) ≡ true
    → AreWhole function number samples
unfolding are_frames channels_at linked_channels
are_whole function number samples = by (interface_in function number)
  where
    by : (o : Option StreamInterface)
        → option_map_or (λ s. carries_out s && length samples % channels_of function.entities s.terminal == 0) o false ≡ true
        → length samples % option_map_or (linked_channels function) o 0 ≡ 0
    by None none = absurd cc
    by (Some s) frames =
        eqb-true (length samples % channels_of function.entities s.terminal) 0 (and_parts (carries_out s) _ frames).1
