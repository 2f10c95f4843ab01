use Rattle.std.proofs.Common.{◌≡◌, ◌*◌, length, take}
use Rattle.uac_pcm.specs.Packets.{bytes_of_frames}
use Rattle.uac_flow.proofs.frames.pack_frames.Given as goal

abbrev pub invariant-loop-number : goal.invariant-loop-number
invariant-loop-number l = record {
  sized : length l.packet.items ≡ l.count * (l.format.channels * l.format.subslot);
  written : take (l.number * (l.format.channels * l.format.subslot)) l.packet.items ≡ bytes_of_frames l.format.subslot l.format.bits (take l.number l.ring);
}
