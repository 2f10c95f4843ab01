-- One more frame of the track is written in each turn, in place of what is there.
use Rattle.std.proofs.Common.{◌≡◌, ℕ, ◌+◌, ◌*◌, ◌≤◌, ◌++◌, ◌∷◌, [], List, ℤ, length, take, ap, sym, subst, ◌∙◌, arith}
use Rattle.std.proofs.Math.Nat.{mul-le-mul_right, zero-mul}
use Rattle.std.specs.List.{All}
use Rattle.uac_pcm.specs.Packets.{bytes_of_frames}
use Rattle.uac_pcm.proofs.PacketsLemmas.{one_written}
use Rattle.uac_host.specs.HostCalls.{track_after_frames, next_frames}
use Rattle.uac_host.specs.HostKept.{kept_track}
use Rattle.uac_host.proofs.HostCallsLemmas.{after_frames_more, after_frames_none, next_frames_more, next_frames_none}
use Rattle.uac_host.proofs.HostKeptLemmas.{even_after}
use Rattle.uac_host.proofs.tracks.Track.fill_each.Goals as goal

pub loop-number-init : goal.loop-number-init
loop-number-init c =
    let format = c.args.format.now in
    record {
      stands = λ t even kept. (
        ap (λ (n : ℕ). take n c.resize.new.packet.items) (zero-mul (format.channels * format.subslot))
            ∙ sym (ap (bytes_of_frames format.subslot format.bits) (next_frames_none format.channels t)),
        kept ∙ ap kept_track (sym (after_frames_none t)),
      );
      sized = c.resize.ensures ∙ ap (λ (n : ℕ). c.args.frames * n) c.frame_bytes-size.ensures;
      channels = c.silence.ensures.len;
    }

pub loop-number-preserved : goal.loop-number-preserved
loop-number-preserved c =
    let format = c.args.format.now in
    let width : ℕ = format.channels * format.subslot in
    let n : ℕ = c.loop-number.number in
    let start : n * c.frame_bytes-size.result ≡ n * width = ap (λ (m : ℕ). n * m) c.frame_bytes-size.ensures in
    let before : n * width ≤ c.args.frames * width = mul-le-mul_right width (omega arith) in
    let inside : n * c.frame_bytes-size.result ≤ length c.loop-number.packet.items = omega (arith, c.loop-number.invariant.sized) in
    let as_many : length c.loop-number.frame.items ≡ format.channels = c.loop-number.invariant.channels in
    let frame : List ℤ = c.next.new.frame.items in
    record {
      stands = λ t even kept.
          (let so_far = c.loop-number.invariant.stands t even kept in
          let one = subst (λ (m : ℕ). (next_frames m 1 (track_after_frames n t) ≡ frame ∷ []) × (c.next.new.self ≡ kept_track (track_after_frames 1 (track_after_frames n t)))) as_many
          (c.next.ensures.stands (track_after_frames n t) (subst (λ (m : ℕ). All (λ f. length f ≡ m) (track_after_frames n t).waiting) (sym as_many) (even_after format.channels n t even)) so_far.1) in
          let grown : next_frames format.channels (n + 1) t ≡ next_frames format.channels n t ++ frame ∷ [] =
          next_frames_more format.channels n t ∙ ap (λ (fs : List (List ℤ)). next_frames format.channels n t ++ fs) one.0 in (
            one_written format.channels format.subslot format.bits (n * c.frame_bytes-size.result) n (next_frames format.channels n t)
                (next_frames format.channels (n + 1) t) frame c.loop-number.packet.items c.write_at.new.packet.items _ (c.next.ensures.channels ∙ as_many)
                start inside grown (ap (λ (m : ℕ). take m c.loop-number.packet.items) start ∙ so_far.0) c.write_at.ensures.written,
            one.1 ∙ ap kept_track (sym (after_frames_more n t)),
          ));
      sized = c.write_at.ensures.len ∙ c.loop-number.invariant.sized;
      channels = c.next.ensures.channels ∙ as_many;
    }
