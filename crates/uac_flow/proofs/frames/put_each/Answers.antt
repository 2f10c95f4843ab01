-- There is room for each frame, since there is for all that are left.
use Rattle.std.proofs.Common.{◌≡◌, ◌∙◌, ◌≤◌, ◌<◌, ◌+◌, ◌*◌, ◌++◌, ◌∷◌, ℕ, ℤ, List, length, ap, arith, subst, sym}
use Rattle.std.proofs.lemmas.List.{append-nil}
use Rattle.std.proofs.lemmas.List.Elements.{All-append}
use Rattle.std.specs.declared.slice.ChunksExact.{ChunksExact}
use Rattle.std.specs.Slice.Iter.{chunks_exact_rest, chunks_exact_size}
use Rattle.uac_pcm.specs.Packets.{frames_of_bytes}
use Rattle.uac_pcm.proofs.PacketsLemmas.{frame_bytes-pos, length-frames_of_bytes, frames_of_bytes-even, unpacked_first, unpacked_short}
use Rattle.uac_ring.specs.Rings.{ring_frames}
use Rattle.uac_flow.specs.Flows.{AreFrames}
use Rattle.uac_flow.proofs.FlowsFrameLemmas.{put_next}
use Rattle.uac_flow.proofs.frames.put_each.Goals as goal

pub loop-bytes-init : goal.loop-bytes-init
loop-bytes-init c =
    let format = c.args.format.now in
    let gives = c.into_iter-bytes-iterator.ensures.into_iter_gives in
    let size_is : chunks_exact_size c.into_iter-bytes-iterator.result ≡ format.channels * format.subslot =
    ap (λ (it : ChunksExact ℕ). chunks_exact_size it) gives ∙ c.chunks_exact-bytes-items.ensures.size ∙ c.frame_bytes.ensures in
    let rest_is : chunks_exact_rest c.into_iter-bytes-iterator.result ≡ c.args.packet.now.items =
    ap (λ (it : ChunksExact ℕ). chunks_exact_rest it) gives ∙ c.chunks_exact-bytes-items.ensures.rest ∙ c.as_slice.ensures.value in
    let some : 0 < format.channels * format.subslot = frame_bytes-pos _ _ _ format.in_range in
    (omega arith, tt, size_is, ap (λ (bs : List ℕ). c.args.ring.now ++ frames_of_bytes format.channels format.subslot format.bits bs) rest_is)

pub loop-bytes-preserved : goal.loop-bytes-preserved
loop-bytes-preserved c =
    let format = c.args.format.now in
    let steps = c.in-Some.ensures.steps in
    let rest = chunks_exact_rest c.next.new.self in
    let size_is : chunks_exact_size c.next.new.self ≡ format.channels * format.subslot = steps.0 ∙ c.loop-bytes.invariant.2 in
    let some : 0 < format.channels * format.subslot = frame_bytes-pos _ _ _ format.in_range in
    let split : frames_of_bytes format.channels format.subslot format.bits (chunks_exact_rest c.loop-bytes.bytes-iterator)
    ≡ c.unpack.new.frame.items ∷ frames_of_bytes format.channels format.subslot format.bits rest =
    unpacked_first format.channels format.subslot format.bits _ c.in-Some.bytes.now rest some steps.1.0 (steps.1.1 ∙ c.loop-bytes.invariant.2)
    ∙ ap (λ (f : List ℤ). f ∷ frames_of_bytes format.channels format.subslot format.bits rest) (sym c.unpack.ensures.samples) in (
      omega arith,
      tt,
      size_is,
      put_next c.put.result c.args.ring.now c.loop-bytes.ring c.put.new.self _ _ _ c.unpack.new.frame.items split
          (subst (λ (n : ℕ). length c.args.ring.now + n ≤ ring_frames) (sym (length-frames_of_bytes _ _ _ _)) c.requires)
          c.loop-bytes.invariant.3 c.put.ensures.full c.put.ensures.appended,
    )

pub returns-clause-put : goal.returns-clause-put
returns-clause-put c =
    let format = c.args.format.now in
    let short : length (chunks_exact_rest c.loop-bytes.bytes-iterator) < format.channels * format.subslot =
    rw (← c.loop-bytes.invariant.2) c.in-None.ensures.steps.1.0 in
    sym (append-nil c.loop-bytes.ring)
    ∙ ap (λ (fs : List (List ℤ)). c.loop-bytes.ring ++ fs) (sym (unpacked_short format.channels format.subslot format.bits _ short))
    ∙ c.loop-bytes.invariant.3

pub returns-clause-frames : goal.returns-clause-frames
returns-clause-frames c = λ whole.
    let frames : List (List ℤ) = frames_of_bytes c.args.format.now.channels c.args.format.now.subslot c.args.format.now.bits c.args.packet.now.items in
    let all : AreFrames c.args.format.now.channels (c.args.ring.now ++ frames) =
    All-append (λ (f : List ℤ). length f ≡ c.args.format.now.channels) c.args.ring.now frames whole
    (frames_of_bytes-even c.args.format.now.channels c.args.format.now.subslot c.args.format.now.bits c.args.packet.now.items) in
    subst (λ (r : List (List ℤ)). AreFrames c.args.format.now.channels r) (sym (returns-clause-put c)) all
