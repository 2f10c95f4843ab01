-- Bytes that are zeros have silent frames, for which there is room.
use Rattle.std.proofs.Common.{◌≡◌, ◌≤◌, ◌∙◌, ◌+◌, ◌++◌, ℕ, ℤ, List, length, replicate, pos, ap, sym, subst}
use Rattle.uac_pcm.specs.Packets.{frames_of_bytes}
use Rattle.uac_pcm.proofs.ZerosLemmas.{frames_of_bytes-zeros}
use Rattle.uac_ring.specs.Rings.{ring_frames}
use Rattle.uac_flow.proofs.frames.put_frames.Goals as goal

pub returns-then-are_zeros-clause-put : goal.returns-then-are_zeros-clause-put
returns-then-are_zeros-clause-put c =
    let format = c.args.format.now in
    let bytes : List ℕ = c.args.packet.now.items in
    let ring : List (List ℤ) = c.args.ring.now in
    let zeros : bytes ≡ replicate (length bytes) 0 =
    subst (λ (bs : List ℕ). bs ≡ replicate (length bs) 0) c.as_slice.ensures.value (c.are_zeros.ensures.0 c.if-are_zeros.true) in
    let room : length ring + c.frames_in.result ≤ ring_frames = subst (λ (n : ℕ). length ring + n ≤ ring_frames) (sym c.frames_in.ensures.frames) c.requires in
    c.put_zeros.ensures.put room
    ∙ ap (λ (n : ℕ). ring ++ replicate n (replicate format.channels (pos 0))) c.frames_in.ensures.frames
    ∙ ap (λ (fs : List (List ℤ)). ring ++ fs)
    (sym (frames_of_bytes-zeros format.channels format.subslot format.bits (length bytes)) ∙ ap (frames_of_bytes format.channels format.subslot format.bits) (sym zeros))
