-- The stream that a setting runs is one that its interface can run.
use Rattle.std.proofs.Common.{◌≡◌, ◌∙◌, sym, subst, refl, arith, ℕ, zero, suc, ◌-◌, ◌*◌, ◌/◌, ◌^◌, ◌≤◌, Bool, true, false, Option, Some, None, inl, inr}
use Rattle.std.proofs.Math.Nat.{div-mul-le_self}
use Rattle.std.proofs.lemmas.Bool.{and_parts, leb-true}
use Rattle.uac_descriptor.specs.declared.standard.Endpoint.{Endpoint}
use Rattle.uac_entities.specs.declared.stream.StreamInterface.{StreamInterface}
use Rattle.uac_topology_rules.proofs.TableLemmas.{channels_placed}
use Rattle.uac_topology.specs.Function.{FunctionFields}
use Rattle.uac_topology.specs.Topology.{IsSoundFunction}
use Rattle.uac_topology.proofs.FunctionKeptRangeLemmas.{in_range}
use Rattle.uac_graph.specs.Meaning.{entity}
use Rattle.uac_rate.specs.Levels.{IsInterval}
use Rattle.uac_alt.specs.AltStreams.{StreamFields, has_its_feedback, linked_channels, packet_room, report_period, stream_of, stream_with}
use Rattle.uac_alt.proofs.AltStreamsPacketLemmas.{first_room}
use Rattle.uac_alt.proofs.FormedLemmas.{stream_format}
use Rattle.uac_alt.proofs.AltStreamsLemmas.{parts_of, ran_of}
use Rattle.uac_device.specs.Linked.{FitsInterface}

-- 1, 2, 4 or 8 microframes
pub interval : (n : ℕ) → n ≤ 3 → IsInterval (2 ^ n)
interval zero most = inl (omega arith)
interval (suc zero) most = inr (inl (omega arith))
interval (suc (suc zero)) most = inr (inr (inl (omega arith)))
interval (suc (suc (suc zero))) most = inr (inr (inr (omega arith)))
interval (suc (suc (suc (suc n)))) most = absurd (omega arith)

-- so often there are reports, where there are any
reports_each : (out : Bool) (first : Endpoint) (second : Option Endpoint) → has_its_feedback out first second ≡ true
    → out ≡ true → IsInterval (report_period out second)
reports_each true first (Some e) answers is =
    let later = and_parts _ _ answers in
    let to : e.interval ≤ 4 = leb-true e.interval 4 (and_parts _ _ later.1).0 in
    interval (e.interval - 1) (omega (arith, to))
reports_each true first None answers is = absurd (cc)
reports_each false first second answers is = absurd (cc)

-- the channels that an interface's terminal has are those of the entity with its id
pub channels_linked : (function : FunctionFields) (s : StreamInterface) → linked_channels function s ≡ (entity function.entities s.terminal).cluster.channels
unfolding linked_channels entity
channels_linked function s = channels_placed function.entities s.terminal

-- a stream of a setting is one that its interface can run
pub stream_fits : (function : FunctionFields) → IsSoundFunction function → (rate interface setting : ℕ) (stream : StreamFields)
    → stream_of function rate interface setting ≡ Some stream → FitsInterface function interface stream
stream_fits function sound rate interface number stream e =
    let parts = parts_of function rate interface number stream e in
    let s = parts.streaming_interface in
    let g = parts.general in
    let f = parts.type_one in
    let first = parts.first in
    let ran = ran_of function s parts.setting parts.nominal g f first parts.runs in
    let some : 1 ≤ stream.channels = (stream_format function rate interface number stream sound e).0 in
    let room : packet_room first ≤ 3072 = first_room function rate interface number stream (in_range function sound) parts in
    let within : (packet_room first / (g.channels * f.subslot)) * (g.channels * f.subslot) ≤ packet_room first = div-mul-le_self (packet_room first) (g.channels * f.subslot) in
    let here : FitsInterface function interface (stream_with s parts.setting parts.nominal g f first) =
    record {
      runs =
          record {
            rate = (rate, parts.rated);
            serves = interval (first.interval - 1) (omega (arith, ran.most));
            reports = reports_each s.out first parts.setting.second ran.answers;
            fits = omega (arith, within, room);
          };
      streaming_interface = s;
      there = parts.carried;
      out = refl;
      channels = ran.linked ∙ channels_linked function s;
      some = subst (λ (t : StreamFields). 1 ≤ t.channels) parts.is some;
    } in
    subst (FitsInterface function interface) (sym parts.is) here
