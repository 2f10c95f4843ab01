-- Packets of a stream fit its endpoint.
use Rattle.std.proofs.Common.{◌≡◌, sym, subst, ℕ, ◌+◌, ◌*◌, ◌/◌, ◌<◌, ◌≤◌, Some, arith}
use Rattle.std.proofs.Math.Nat.{div-mul-le_self, le-div_iff_mul-le}
use Rattle.std.proofs.lemmas.Nat.{mul-le}
use Rattle.uac_descriptor.specs.Endpoints.{additional_transactions, packet_size}
use Rattle.uac_descriptor.specs.BlockFields.{IsHighSpeed}
use Rattle.uac_descriptor.specs.declared.standard.Endpoint.{Endpoint}
use Rattle.uac_pcm.proofs.PacketsLemmas.{frame_bytes-pos}
use Rattle.uac_topology.specs.Function.{FunctionFields}
use Rattle.uac_topology.specs.FunctionKept.{AreInRange}
use Rattle.uac_topology.specs.Topology.{IsSoundFunction}
use Rattle.uac_topology.proofs.FunctionKeptRangeLemmas.{in_range}
use Rattle.uac_alt.specs.AltStreams.{packet_room, stream_of, StreamFields}
use Rattle.uac_alt.proofs.FormedLemmas.{stream_format}
use Rattle.uac_alt.proofs.AltStreamsLemmas.{Parts, parts_of, ran_of, range_at}

-- an endpoint of high speed carries at most three transactions of 1,024 bytes
pub small_room : (e : Endpoint) → IsHighSpeed e → packet_room e ≤ 3072
small_room e high =
    let few : 1 + additional_transactions e.max_packet ≤ 3 = (let other = high.few_transactions in omega arith) in
    mul-le (packet_size e.max_packet) (1 + additional_transactions e.max_packet) 1024 3 high.small few

-- so does the first endpoint of a stream
pub first_room : (function : FunctionFields) (rate interface number : ℕ) (s : StreamFields) → AreInRange function.streams
    → (parts : Parts function rate interface number s) → packet_room parts.first ≤ 3072
first_room function rate interface number s ranges parts =
    let range = range_at function interface number parts.streaming_interface parts.setting ranges parts.carried parts.set in
    small_room parts.first (range.first parts.first parts.has_first)

-- a packet has at most 3072 bytes
pub few_bytes : (function : FunctionFields) (rate interface number : ℕ) (s : StreamFields) → IsSoundFunction function → stream_of function rate interface number ≡ Some s → s.most * (s.channels * s.subslot) ≤ 3072
few_bytes function rate interface number s sound is =
    let p = parts_of function rate interface number s is in
    let room : packet_room p.first ≤ 3072 = first_room function rate interface number s (in_range function sound) p in
    let within : packet_room p.first / (p.general.channels * p.type_one.subslot) * (p.general.channels * p.type_one.subslot) ≤ packet_room p.first = div-mul-le_self (packet_room p.first) (p.general.channels * p.type_one.subslot) in
    let most : packet_room p.first / (p.general.channels * p.type_one.subslot) * (p.general.channels * p.type_one.subslot) ≤ 3072 = omega arith in
    subst (λ (s : StreamFields). s.most * (s.channels * s.subslot) ≤ 3072) (sym p.is) most

-- a packet has room for the most frames of a service interval
pub interval_fits : (function : FunctionFields) (rate interface number : ℕ) (s : StreamFields) → IsSoundFunction function → stream_of function rate interface number ≡ Some s → s.service * s.nominal.hi ≤ s.most
interval_fits function rate interface number s sound is =
    let p = parts_of function rate interface number s is in
    let ran = ran_of function p.streaming_interface p.setting p.nominal p.general p.type_one p.first p.runs in
    let some : 0 < s.channels * s.subslot = frame_bytes-pos s.channels s.subslot s.bits (stream_format function rate interface number s sound is) in
    let bytes : 0 < p.general.channels * p.type_one.subslot = subst (λ (t : StreamFields). 0 < t.channels * t.subslot) p.is some in
    subst (λ (s : StreamFields). s.service * s.nominal.hi ≤ s.most) (sym p.is) ((le-div_iff_mul-le bytes).1 ran.fits)
