-- What a stream has that a setting runs.
use Rattle.std.proofs.Common.{◌≡◌, ℕ, ◌-◌, ◌^◌, ◌≤◌, Option, Some, sym, ap, subst, ◌∙◌, arith, zero, suc}
use Rattle.std.specs.Option.{option_map_or}
use Rattle.uac_entities.specs.declared.stream.StreamInterface.{StreamInterface}
use Rattle.uac_topology.specs.Function.{FunctionFields, interface_in}
use Rattle.uac_topology.specs.FunctionKept.{AreInRange}
use Rattle.uac_alt.specs.AltStreams.{StreamFields, linked_channels, packet_room}
use Rattle.uac_alt.proofs.AltStreamsPacketLemmas.{first_room}
use Rattle.uac_alt.proofs.AltStreamsLemmas.{parts_of, ran_of}
use Rattle.uac_host.specs.HostCalls.{IsStreamOf, channels_at}
use Rattle.uac_host.specs.HostFields.{IsRunnable}

-- 1, 2, 4 or 8 microframes
short : (n : ℕ) → n ≤ 3 → 2 ^ n ≤ 8
short zero most = omega arith
short (suc zero) most = omega arith
short (suc (suc zero)) most = omega arith
short (suc (suc (suc zero))) most = omega arith
short (suc (suc (suc (suc n)))) most = absurd (omega arith)

-- the stream of a setting is one that can run
pub runnable : (function : FunctionFields) (interface : ℕ) (stream : StreamFields) → AreInRange function.streams → IsStreamOf function interface stream → IsRunnable stream
runnable function interface stream ranged of =
    let parts = parts_of function of.rate interface of.setting stream of.is in
    let first = parts.first in
    let ran = ran_of function parts.streaming_interface parts.setting parts.nominal parts.general parts.type_one first parts.runs in
    let room : packet_room first ≤ 3072 = first_room function of.rate interface of.setting stream ranged parts in
    subst IsRunnable (sym parts.is) (record {
      nominal = (of.rate, parts.rated);
      service = short (first.interval - 1) (omega (arith, ran.most));
      fits = omega (arith, ran.fits, room);
    })

-- and has the channels of the terminal
pub channels_of : (function : FunctionFields) (interface : ℕ) (stream : StreamFields) → IsStreamOf function interface stream → stream.channels ≡ channels_at function interface
unfolding channels_at
channels_of function interface stream of =
    let parts = parts_of function of.rate interface of.setting stream of.is in
    let ran = ran_of function parts.streaming_interface parts.setting parts.nominal parts.general parts.type_one parts.first parts.runs in
    ap (λ (s : StreamFields). s.channels) parts.is ∙ ran.linked ∙ sym (ap (λ (o : Option StreamInterface). option_map_or (linked_channels function) o 0) parts.carried)

-- and the interface is there
pub carried_by : (function : FunctionFields) (interface : ℕ) (stream : StreamFields) → IsStreamOf function interface stream → (s : StreamInterface) × (interface_in function interface ≡ Some s)
carried_by function interface stream of =
    let parts = parts_of function of.rate interface of.setting stream of.is in
    (parts.streaming_interface, parts.carried)
