-- Frames in a row, and the frames of bytes.
use Rattle.std.proofs.Common.{add-one, ◌≡◌, ℕ, zero, suc, ◌+◌, ◌-◌, ◌*◌, ◌/◌, ◌<◌, ◌≤◌, ℤ, List, [], ◌∷◌, ◌++◌, length, get_or, take, drop, map, slice_get, Some, arith, ap, ◌∙◌, sym, refl, append_assoc, length-append, zero-add}
use Rattle.std.proofs.Math.Nat.{add-div_left, div-eq_of_lt, suc-mul, zero-mul, mul-le-mul_right, div-mul-le_self, mul-pos}
use Rattle.std.proofs.Math.Seq.{take-append_seam, drop-append_seam, drop-nil}
use Rattle.std.specs.List.{All}
use Rattle.std.specs.Option.{option_map}
use Rattle.std.specs.Simd.{first_chunks}
use Rattle.std.proofs.lemmas.List.{append-nil, flat_map_more, length-map, length-take-le, take_at}
use Rattle.std.proofs.lemmas.Nat.{div-mul-add}
use Rattle.std.proofs.lemmas.Option.{slice_get-map}
use Rattle.uac_pcm.specs.Subslots.{cut_to, sample_of_subslot}
use Rattle.uac_pcm.specs.Frames.{IsFormat, bytes_of_frame, frame_of_bytes}
use Rattle.uac_pcm.specs.Packets.{IsFrame, bytes_of_frames, frames_of_bytes, whole_frames}
use Rattle.uac_pcm.proofs.FramesLemmas.{length-bytes_of_frame, frame_of_bytes-bytes_of_frame}

-- the front of two lists in a row, where it has that length, and what is after it
pub take_front : {X : Type 0} (n : ℕ) (xs ys : List X) → length xs ≡ n → take n (xs ++ ys) ≡ xs
take_front n xs ys long = ap (λ (k : ℕ). take k (xs ++ ys)) (sym long) ∙ take-append_seam xs ys

pub drop_front : {X : Type 0} (n : ℕ) (xs ys : List X) → length xs ≡ n → drop n (xs ++ ys) ≡ ys
drop_front n xs ys long = ap (λ (k : ℕ). drop k (xs ++ ys)) (sym long) ∙ drop-append_seam xs ys

-- a part of a part
pub drop-drop : {X : Type 0} (n k : ℕ) (xs : List X) → drop k (drop n xs) ≡ drop (n + k) xs
drop-drop zero k xs = ap (λ (m : ℕ). drop m xs) (sym (zero-add k))
drop-drop (suc n) k [] = drop-nil k ∙ sym (drop-nil (suc n + k))
drop-drop (suc n) k (x ∷ xs) =
    let step : suc (n + k) ≡ suc n + k = omega arith in
    drop-drop n k xs ∙ ap (λ (m : ℕ). drop m (x ∷ xs)) step

-- all of a frame that stands whole is there
pub whole_room : (n k i : ℕ) → i < n / k → i * k + k ≤ n
whole_room n k i inside =
    let more : suc i * k ≤ n / k * k = mul-le-mul_right k (omega arith) in
    let all : n / k * k ≤ n = div-mul-le_self n k in
    let step : suc i * k ≡ i * k + k = suc-mul i k in
    omega arith

-- a format's frame has bytes
pub frame_bytes-pos : (count size resolution : ℕ) → IsFormat count size resolution → 0 < count * size
frame_bytes-pos count size resolution format = mul-pos (omega (arith, format.0)) (omega (arith, format.2))

-- the i-th of the first chunks
pub slice_get-first_chunks : {X : Type 0} (n k i : ℕ) (xs : List X) → i < k → slice_get (first_chunks n k xs) i ≡ Some (take n (drop (i * n) xs))
slice_get-first_chunks n zero i xs inside = absurd (omega arith)
slice_get-first_chunks n (suc k) zero xs inside = ap (λ (m : ℕ). Some (take n (drop m xs))) (sym (zero-mul n))
slice_get-first_chunks {X = X} n (suc k) (suc i) xs inside =
    let step : n + i * n ≡ suc i * n = omega (arith, suc-mul i n) in
    slice_get-first_chunks n k i (drop n xs) (omega arith)
    ∙ ap (λ (ys : List X). Some (take n ys)) (drop-drop n (i * n) xs)
    ∙ ap (λ (m : ℕ). Some (take n (drop m xs))) step

pub length-first_chunks : {X : Type 0} (n k : ℕ) (xs : List X) → length (first_chunks n k xs) ≡ k
length-first_chunks n zero xs = refl
length-first_chunks n (suc k) xs = ap (λ (j : ℕ). suc j) (length-first_chunks n k (drop n xs))

-- each frame has the same number of bytes
pub length-bytes_of_frames : (count size resolution : ℕ) (frames : List (List ℤ)) → All (λ samples. length samples ≡ count) frames
    → length (bytes_of_frames size resolution frames) ≡ length frames * (count * size)
length-bytes_of_frames count size resolution [] even = sym (zero-mul (count * size))
length-bytes_of_frames count size resolution (f ∷ fs) even =
    let first : length f ≡ count = even 0 f (omega arith) in
    let others : length (bytes_of_frames size resolution fs) ≡ length fs * (count * size) =
    length-bytes_of_frames count size resolution fs (λ k d below. even (suc k) d (omega arith)) in
    let front : length (bytes_of_frame size resolution f) ≡ count * size = length-bytes_of_frame size resolution f ∙ ap (λ (n : ℕ). n * size) first in
    length-append (bytes_of_frame size resolution f) (bytes_of_frames size resolution fs) ∙ omega (arith, suc-mul (length fs) (count * size))

-- the bytes of the i-th frame
pub frame_of_packed : (count size resolution i : ℕ) (frames : List (List ℤ)) (d : List ℤ) → All (λ samples. length samples ≡ count) frames → i < length frames
    → take (count * size) (drop (i * (count * size)) (bytes_of_frames size resolution frames)) ≡ bytes_of_frame size resolution (get_or frames i d)
frame_of_packed count size resolution i [] d even inside = absurd (omega arith)
frame_of_packed count size resolution zero (f ∷ fs) d even inside =
    let long : length (bytes_of_frame size resolution f) ≡ count * size =
    length-bytes_of_frame size resolution f ∙ ap (λ (n : ℕ). n * size) (even 0 f (omega arith)) in
    ap (λ (m : ℕ). take (count * size) (drop m (bytes_of_frames size resolution (f ∷ fs)))) (zero-mul (count * size))
    ∙ take_front (count * size) (bytes_of_frame size resolution f) (bytes_of_frames size resolution fs) long
frame_of_packed count size resolution (suc i) (f ∷ fs) d even inside =
    let long : length (bytes_of_frame size resolution f) ≡ count * size =
    length-bytes_of_frame size resolution f ∙ ap (λ (n : ℕ). n * size) (even 0 f (omega arith)) in
    let step : suc i * (count * size) ≡ count * size + i * (count * size) = omega (arith, suc-mul i (count * size)) in
    ap (λ (m : ℕ). take (count * size) (drop m (bytes_of_frames size resolution (f ∷ fs)))) step
    ∙ ap (take (count * size)) (sym (drop-drop (count * size) (i * (count * size)) (bytes_of_frames size resolution (f ∷ fs))))
    ∙ ap (λ (bs : List ℕ). take (count * size) (drop (i * (count * size)) bs)) (drop_front (count * size) (bytes_of_frame size resolution f) (bytes_of_frames size resolution fs) long)
    ∙ frame_of_packed count size resolution i fs d (λ k e below. even (suc k) e (omega arith)) (omega arith)

-- frames whose bytes are the front of a packet, and one more that is written after them
pub one_written : (channels size bits start n : ℕ) (frames more : List (List ℤ)) (frame : List ℤ) (old new rest : List ℕ) → length frame ≡ channels
    → start ≡ n * (channels * size) → start ≤ length old → more ≡ frames ++ frame ∷ [] → take start old ≡ bytes_of_frames size bits frames
    → new ≡ take start old ++ (bytes_of_frame size bits frame ++ rest) → take ((n + 1) * (channels * size)) new ≡ bytes_of_frames size bits more
one_written channels size bits start n frames more frame old new rest wide is_start inside grown so_far written =
    let bytes : List ℕ = bytes_of_frame size bits frame in
    let front : List ℕ = take start old in
    let width : length bytes ≡ channels * size = length-bytes_of_frame size bits frame ∙ ap (λ (m : ℕ). m * size) wide in
    let step : (n + 1) * (channels * size) ≡ n * (channels * size) + channels * size = rw add-one (suc-mul n (channels * size)) in
    let many : length (front ++ bytes) ≡ (n + 1) * (channels * size) =
    length-append front bytes ∙ omega (arith, length-take-le start old inside) in
    ap (take ((n + 1) * (channels * size))) (written ∙ sym (append_assoc front bytes rest))
    ∙ take_at (front ++ bytes) rest ((n + 1) * (channels * size)) many
    ∙ ap (λ (bs : List ℕ). bs ++ bytes) so_far
    ∙ flat_map_more (bytes_of_frame size bits) [] frames frame
    ∙ ap (bytes_of_frames size bits) (sym grown)

-- the frames that are read are those that were packed, cut
chunks_read : (count size resolution : ℕ) (frames : List (List ℤ)) (rest : List ℕ) → IsFormat count size resolution → All (IsFrame count) frames
    → map (frame_of_bytes count size resolution) (first_chunks (count * size) (length frames) (bytes_of_frames size resolution frames ++ rest))
    ≡ map (map (cut_to resolution)) frames
chunks_read count size resolution [] rest format framed = refl
chunks_read count size resolution (f ∷ fs) rest format framed =
    let is_frame : IsFrame count f = framed 0 f (omega arith) in
    let bytes : List ℕ = bytes_of_frame size resolution f in
    let others : List ℕ = bytes_of_frames size resolution fs ++ rest in
    let long : length bytes ≡ count * size = length-bytes_of_frame size resolution f ∙ ap (λ (n : ℕ). n * size) is_frame.0 in
    let front : take (count * size) (bytes ++ others) ≡ bytes = take_front (count * size) bytes others long in
    let back : drop (count * size) (bytes ++ others) ≡ others = drop_front (count * size) bytes others long in
    let read : frame_of_bytes count size resolution bytes ≡ map (cut_to resolution) f =
    ap (frame_of_bytes count size resolution) (sym (append-nil bytes))
    ∙ ap (λ (n : ℕ). frame_of_bytes n size resolution (bytes ++ [])) (sym is_frame.0)
    ∙ frame_of_bytes-bytes_of_frame size resolution f [] format.3 format.4 format.5 is_frame.1 in
    ap (λ (bs : List ℕ). map (frame_of_bytes count size resolution) (first_chunks (count * size) (suc (length fs)) bs)) (append_assoc bytes (bytes_of_frames size resolution fs) rest)
    ∙ ap (λ (bs : List ℕ). frame_of_bytes count size resolution bs ∷ map (frame_of_bytes count size resolution) (first_chunks (count * size) (length fs) (drop (count * size) (bytes ++ others)))) front
    ∙ ap (λ (zs : List ℤ). zs ∷ map (frame_of_bytes count size resolution) (first_chunks (count * size) (length fs) (drop (count * size) (bytes ++ others)))) read
    ∙ ap (λ (bs : List ℕ). map (cut_to resolution) f ∷ map (frame_of_bytes count size resolution) (first_chunks (count * size) (length fs) bs)) back
    ∙ ap (λ (zs : List (List ℤ)). map (cut_to resolution) f ∷ zs)
    (chunks_read count size resolution fs rest format (λ k d below. framed (suc k) d (omega arith)))

-- as many frames are whole as were packed
pub whole_frames-bytes_of_frames : (count size resolution : ℕ) (frames : List (List ℤ)) (rest : List ℕ) → All (λ samples. length samples ≡ count) frames
    → length rest < count * size → whole_frames count size (bytes_of_frames size resolution frames ++ rest) ≡ length frames
whole_frames-bytes_of_frames count size resolution frames rest even short =
    let long : length (bytes_of_frames size resolution frames ++ rest) ≡ length frames * (count * size) + length rest =
    length-append (bytes_of_frames size resolution frames) rest ∙ ap (λ (n : ℕ). n + length rest) (length-bytes_of_frames count size resolution frames even) in
    ap (λ (n : ℕ). n / (count * size)) long ∙ div-mul-add (length frames) (count * size) (length rest) short

pub frames_of_bytes-bytes_of_frames : (count size resolution : ℕ) (frames : List (List ℤ)) (rest : List ℕ) → IsFormat count size resolution → All (IsFrame count) frames
    → length rest < count * size → frames_of_bytes count size resolution (bytes_of_frames size resolution frames ++ rest) ≡ map (map (cut_to resolution)) frames
frames_of_bytes-bytes_of_frames count size resolution frames rest format framed short =
    let even : All (λ samples. length samples ≡ count) frames = λ k d below. (framed k d below).0 in
    let bytes : List ℕ = bytes_of_frames size resolution frames ++ rest in
    ap (λ (n : ℕ). map (frame_of_bytes count size resolution) (first_chunks (count * size) n bytes))
    (whole_frames-bytes_of_frames count size resolution frames rest even short)
    ∙ chunks_read count size resolution frames rest format framed

-- what is read at a place
pub slice_get-frames_of_bytes : (count size resolution i : ℕ) (bytes : List ℕ) → i < whole_frames count size bytes
    → slice_get (frames_of_bytes count size resolution bytes) i ≡ Some (frame_of_bytes count size resolution (take (count * size) (drop (i * (count * size)) bytes)))
slice_get-frames_of_bytes count size resolution i bytes inside =
    slice_get-map (frame_of_bytes count size resolution) (first_chunks (count * size) (whole_frames count size bytes) bytes) i
    ∙ ap (option_map (frame_of_bytes count size resolution)) (slice_get-first_chunks (count * size) (whole_frames count size bytes) i bytes inside)

-- a frame that was read from its part of a packet
pub read_at : (count size resolution number start width : ℕ) (packet part bytes : List ℕ) (samples : List ℤ) → width ≡ count * size → start ≡ number * width
    → number < whole_frames count size packet → part ≡ packet → bytes ≡ take (start + width - start) (drop start part)
    → samples ≡ frame_of_bytes count size resolution bytes → slice_get (frames_of_bytes count size resolution packet) number ≡ Some samples
read_at count size resolution number start width packet part bytes samples wide begins inside whole cutting read =
    let long : start + width - start ≡ count * size = omega arith in
    let begins_at : start ≡ number * (count * size) = begins ∙ ap (λ (n : ℕ). number * n) wide in
    let same : bytes ≡ take (count * size) (drop (number * (count * size)) packet) =
    cutting
    ∙ ap (λ (n : ℕ). take n (drop start part)) long
    ∙ ap (λ (n : ℕ). take (count * size) (drop n part)) begins_at
    ∙ ap (λ (bs : List ℕ). take (count * size) (drop (number * (count * size)) bs)) whole in
    slice_get-frames_of_bytes count size resolution number packet inside
    ∙ ap (λ (xs : List ℤ). Some xs) (ap (frame_of_bytes count size resolution) (sym same) ∙ sym read)

pub length-frames_of_bytes : (count size resolution : ℕ) (bytes : List ℕ) → length (frames_of_bytes count size resolution bytes) ≡ whole_frames count size bytes
length-frames_of_bytes count size resolution bytes =
    length-map (first_chunks (count * size) (whole_frames count size bytes) bytes) (frame_of_bytes count size resolution)
    ∙ length-first_chunks (count * size) (whole_frames count size bytes) bytes

-- bytes that begin with those of a frame
pub unpacked_first : (count size resolution : ℕ) (bytes front rest : List ℕ) → 0 < count * size → bytes ≡ front ++ rest → length front ≡ count * size
    → frames_of_bytes count size resolution bytes ≡ frame_of_bytes count size resolution front ∷ frames_of_bytes count size resolution rest
unpacked_first count size resolution bytes front rest some split whole =
    let width : ℕ = count * size in
    let lengths : length bytes ≡ width + length rest =
    ap length split ∙ length-append front rest ∙ ap (λ (n : ℕ). n + length rest) whole in
    let many : whole_frames count size bytes ≡ suc (whole_frames count size rest) =
    ap (λ (n : ℕ). n / width) lengths ∙ add-div_left (length rest) some ∙ rw add-one refl in
    let first : take width bytes ≡ front = ap (take width) split ∙ take_front width front rest whole in
    let others : drop width bytes ≡ rest = ap (drop width) split ∙ drop_front width front rest whole in
    ap (λ (n : ℕ). map (frame_of_bytes count size resolution) (first_chunks width n bytes)) many
    ∙ ap (λ (bs : List ℕ). frame_of_bytes count size resolution bs
    ∷ map (frame_of_bytes count size resolution) (first_chunks width (whole_frames count size rest) (drop width bytes))) first
    ∙ ap (λ (bs : List ℕ). frame_of_bytes count size resolution front
    ∷ map (frame_of_bytes count size resolution) (first_chunks width (whole_frames count size rest) bs)) others

-- bytes that are too few for a frame
pub unpacked_short : (count size resolution : ℕ) (bytes : List ℕ) → length bytes < count * size → frames_of_bytes count size resolution bytes ≡ []
unpacked_short count size resolution bytes short =
    ap (λ (n : ℕ). map (frame_of_bytes count size resolution) (first_chunks (count * size) n bytes)) (div-eq_of_lt short)

-- each frame that is read has a sample for each channel
pub frames_of_bytes-even : (count size resolution : ℕ) (bytes : List ℕ) → All (λ samples. length samples ≡ count) (frames_of_bytes count size resolution bytes)
frames_of_bytes-even count size resolution bytes = along (first_chunks (count * size) (whole_frames count size bytes) bytes) where
  one : (bs : List ℕ) → length (frame_of_bytes count size resolution bs) ≡ count
  one bs = length-map (first_chunks size count bs) (sample_of_subslot size resolution) ∙ length-first_chunks size count bs

  along : (chunks : List (List ℕ)) → All (λ samples. length samples ≡ count) (map (frame_of_bytes count size resolution) chunks)
  along [] k d below = absurd (omega arith)
  along (b ∷ bs) zero d below = one b
  along (b ∷ bs) (suc k) d below = along bs k d (omega arith)
