use Rattle.std.proofs.Common.{◌≡◌, ◌*◌, length, take}
use Rattle.std.specs.List.{All}
use Rattle.uac_pcm.specs.Packets.{bytes_of_frames}
use Rattle.uac_host.specs.HostWorld.{Track}
use Rattle.uac_host.specs.HostCalls.{track_after_frames, next_frames}
use Rattle.uac_host.specs.HostKept.{kept_track}
use Rattle.uac_host.proofs.tracks.Track.fill_each.Given as goal

abbrev pub invariant-loop-number : goal.invariant-loop-number
invariant-loop-number l = record {
  stands : (t : Track) → All (λ frame. length frame ≡ l.format.channels) t.waiting → l.initial.self ≡ kept_track t
      → (take (l.number * (l.format.channels * l.format.subslot)) l.packet.items
      ≡ bytes_of_frames l.format.subslot l.format.bits (next_frames l.format.channels l.number t))
      × (l.self ≡ kept_track (track_after_frames l.number t));
  sized : length l.packet.items ≡ l.frames * (l.format.channels * l.format.subslot);
  channels : length l.frame.items ≡ l.format.channels;
}
