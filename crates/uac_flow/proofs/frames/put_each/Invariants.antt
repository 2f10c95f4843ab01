use Rattle.std.proofs.Common.{◌≡◌, ◌++◌, ◌*◌}
use Rattle.std.specs.Slice.Iter.{chunks_exact_rest, chunks_exact_size}
use Rattle.uac_pcm.specs.Packets.{frames_of_bytes}
use Rattle.uac_flow.proofs.frames.put_each.Given as goal

abbrev pub invariant-loop-bytes : goal.invariant-loop-bytes
invariant-loop-bytes l =
    (goal.iterator-loop-bytes).can_next l.bytes-iterator ×
    (goal.iterator-loop-bytes).is_finite l.bytes-iterator ×
    (chunks_exact_size l.bytes-iterator ≡ l.format.channels * l.format.subslot) ×
    (l.ring ++ frames_of_bytes l.format.channels l.format.subslot l.format.bits (chunks_exact_rest l.bytes-iterator)
    ≡ l.initial.ring ++ frames_of_bytes l.format.channels l.format.subslot l.format.bits l.packet.items)
