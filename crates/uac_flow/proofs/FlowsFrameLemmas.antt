-- The frames of a ring as frames come and go.
use Rattle.std.proofs.Common.{◌≡◌, ◌∙◌, sym, refl, ap, arith, ℕ, zero, suc, ◌+◌, ◌-◌, ◌*◌, ◌<◌, ◌≤◌, ℤ, List, [], ◌∷◌, ◌++◌, length, take, drop, slice_get, Some, Result, Ok, Err, IsErr, OnOk, ◌↔◌, pos, replicate, add-one, append_assoc, length-append}
use Rattle.std.proofs.lemmas.List.{drop-append-le, length-drop, take-replicate}
use Rattle.std.proofs.lemmas.Option.{get_or_from_slice_get, slice_get_within}
use Rattle.uac_pcm.specs.Frames.{bytes_of_frame}
use Rattle.uac_pcm.specs.Packets.{bytes_of_frames}
use Rattle.uac_pcm.proofs.PacketsLemmas.{drop-drop, one_written}
use Rattle.uac_pcm.proofs.ZerosLemmas.{bytes_of_frames-silent}
use Rattle.uac_ring.specs.Rings.{Holds, ring_frames}
use Rattle.uac_flow.specs.Flows.{AreFrames}

-- the level
pub level_kept : (came ring : List (List ℤ)) (gone : ℕ) → Holds came gone ring → length ring ≡ length came - gone
level_kept came ring gone held = ap length held.1 ∙ length-drop gone came

-- frames that come
pub holds_more : (came more ring : List (List ℤ)) (gone : ℕ) → Holds came gone ring → Holds (came ++ more) gone (ring ++ more)
holds_more came more ring gone held =
    (omega (arith, length-append came more, held.0), ap (λ (r : List (List ℤ)). r ++ more) held.1 ∙ sym (drop-append-le gone came more held.0))

-- frames that go
pub holds_less : (came ring : List (List ℤ)) (gone count : ℕ) → Holds came gone ring → count ≤ length ring → Holds came (gone + count) (drop count ring)
holds_less came ring gone count held there =
    let level = level_kept came ring gone held in
    (omega (arith, held.0, there, level), ap (λ (r : List (List ℤ)). drop count r) held.1 ∙ drop-drop gone count came)

-- one more of a list's front
take_further : {X : Type 0} (n : ℕ) (xs : List X) (x : X) → slice_get xs n ≡ Some x → take (suc n) xs ≡ take n xs ++ x ∷ []
take_further zero [] x there = cc
take_further zero (y ∷ ys) x there =
    let same : y ≡ x = cc in ap (λ z. z ∷ []) same
take_further (suc n) [] x there = cc
take_further (suc n) (y ∷ ys) x there = ap (λ zs. y ∷ zs) (take_further n ys x there)

pub one_more : {X : Type 0} (n : ℕ) (xs : List X) (x : X) → slice_get xs n ≡ Some x → take (n + 1) xs ≡ take n xs ++ x ∷ []
one_more n xs x there = rw add-one (take_further n xs x there)

-- a ring that isn't full takes a frame
pub put_there : {T E : Type 0} (r : Result T E) (P : Type 0) (level : ℕ) → IsErr r ↔ (level ≡ ring_frames) → level < ring_frames → OnOk r P → P
put_there (Ok u) P level full room put = put
put_there (Err e) P level full room put =
    let is_full : level ≡ ring_frames = full.0 refl in absurd (omega arith)

-- the first of the frames that are left of a packet goes into a ring that has room for all of them
pub put_next : {T E : Type 0} (r : Result T E) (before ring after left others frames : List (List ℤ)) (frame : List ℤ) → left ≡ frame ∷ others
    → length before + length frames ≤ ring_frames → ring ++ left ≡ before ++ frames → IsErr r ↔ (length ring ≡ ring_frames)
    → OnOk r (after ≡ ring ++ frame ∷ []) → after ++ others ≡ before ++ frames
put_next r before ring after left others frames frame first fits so_far full put =
    let all : length ring + length left ≡ length before + length frames =
    sym (length-append ring left) ∙ ap length so_far ∙ length-append before frames in
    let some : length left ≡ suc (length others) = ap length first in
    let room : length ring < ring_frames = omega arith in
    ap (λ (r : List (List ℤ)). r ++ others) (put_there r (after ≡ ring ++ frame ∷ []) (length ring) full room put)
    ∙ append_assoc ring (frame ∷ []) others
    ∙ ap (λ (fs : List (List ℤ)). ring ++ fs) (sym first)
    ∙ so_far

-- the frames whose bytes a packet has, and one more
pub packed_further : (channels size bits start n : ℕ) (frames : List (List ℤ)) (frame : List ℤ) (old new rest : List ℕ) → AreFrames channels frames
    → start ≡ n * (channels * size) → start ≤ length old → Some frame ≡ slice_get frames n → take start old ≡ bytes_of_frames size bits (take n frames)
    → new ≡ take start old ++ (bytes_of_frame size bits frame ++ rest)
    → take ((n + 1) * (channels * size)) new ≡ bytes_of_frames size bits (take (n + 1) frames)
packed_further channels size bits start n frames frame old new rest whole is_start inside at so_far written =
    let there : slice_get frames n ≡ Some frame = sym at in
    let wide : length frame ≡ channels =
    ap length (sym (get_or_from_slice_get frames n frame frame there)) ∙ whole n frame (slice_get_within frames n frame there) in
    one_written channels size bits start n (take n frames) (take (n + 1) frames) frame old new rest wide is_start inside (one_more n frames frame there)
    so_far written

-- the bytes of a silent ring's oldest frames
pub silent_packed : (channels size bits count : ℕ) (ring : List (List ℤ)) → ring ≡ replicate (length ring) (replicate channels (pos 0))
    → count ≤ length ring → bytes_of_frames size bits (take count ring) ≡ replicate (count * (channels * size)) 0
silent_packed channels size bits count ring silent there =
    ap (λ (r : List (List ℤ)). bytes_of_frames size bits (take count r)) silent
    ∙ ap (bytes_of_frames size bits) (take-replicate count (length ring) (replicate channels (pos 0)) there)
    ∙ bytes_of_frames-silent channels size bits count
