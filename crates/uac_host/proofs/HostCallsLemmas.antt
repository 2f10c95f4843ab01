-- The frames of a track, one after the other.
use Rattle.std.proofs.Common.{◌≡◌, ℕ, ◌+◌, ◌-◌, ◌*◌, ◌%◌, ◌<◌, ◌≤◌, ℤ, pos, ◌+ℤ◌, ◌*ℤ◌, w32, List, [], ◌∷◌, ◌++◌, length, take, drop, map, to_z, arith, ap, ◌∙◌, sym, refl, append_assoc, inl, inr}
use Rattle.std.proofs.Math.Seq.{take-add}
use Rattle.std.specs.List.{range_with_len}
use Rattle.std.proofs.lemmas.List.{append-nil, drop_all, take_all, length-drop}
use Rattle.std.proofs.lemmas.List.FromFn.{map-range_with_len_more}
use Rattle.std.proofs.lemmas.Int.{int_wrap-add_right, int_wrap-mul_right}
use Rattle.std.proofs.lemmas.Bool.{cases_lt}
use Rattle.std.proofs.lemmas.Nat.{mul-mod_first}
use Rattle.uac_pcm.specs.Subslots.{wrap}
use Rattle.uac_pcm.specs.Tones.{tone_sample, tone_frame}
use Rattle.uac_pcm.specs.declared.tones.Tone.{Tone}
use Rattle.uac_pcm.specs.declared.tones.Tone.TheVariants.{Silent, Ramp, Noise}
use Rattle.uac_pcm.proofs.TonesWrapLemmas.{int_wrap-pos}
use Rattle.uac_pcm.proofs.PacketsLemmas.{drop-drop}
use Rattle.uac_host.specs.HostWorld.{Track}
use Rattle.uac_host.specs.HostCalls.{track_after_frames, next_frames}

-- no frames
pub next_frames_none : (channels : ℕ) (t : Track) → next_frames channels 0 t ≡ []
unfolding next_frames
next_frames_none channels t =
    let none : 0 - length t.waiting ≡ 0 = omega arith in
    ap (λ n. map (tone_frame channels t.tone) (range_with_len t.place n)) none

pub after_frames_none : (t : Track) → track_after_frames 0 t ≡ t
unfolding track_after_frames
after_frames_none t =
    let place : t.place + (0 - length t.waiting) ≡ t.place = omega arith in
    ap (λ (n : ℕ). let s : Track = record { waiting = t.waiting; tone = t.tone; place = n } in s) place

-- one more
pub next_frames_more : (channels i : ℕ) (t : Track) → next_frames channels (i + 1) t ≡ next_frames channels i t ++ next_frames channels 1 (track_after_frames i t)
unfolding next_frames track_after_frames
next_frames_more channels i t = elim (cases_lt i (length t.waiting)) [ inl inside ↦ waits inside | inr past ↦ sounds past ] where
  waits : i < length t.waiting → take (i + 1) t.waiting ++ map (tone_frame channels t.tone) (range_with_len t.place (i + 1 - length t.waiting))
      ≡ (take i t.waiting ++ map (tone_frame channels t.tone) (range_with_len t.place (i - length t.waiting)))
      ++ (take 1 (drop i t.waiting) ++ map (tone_frame channels t.tone) (range_with_len (t.place + (i - length t.waiting)) (1 - length (drop i t.waiting))))
  waits inside =
      let all : i + 1 - length t.waiting ≡ 0 = omega arith in
      let some : i - length t.waiting ≡ 0 = omega arith in
      let left : 1 - length (drop i t.waiting) ≡ 0 = simp length-drop (omega arith) in
      rw (all, left, some)
      (append-nil (take (i + 1) t.waiting) ∙ take-add i 1 t.waiting
      ∙ sym (ap (λ (xs : List (List ℤ)). xs ++ (take 1 (drop i t.waiting) ++ [])) (append-nil (take i t.waiting))
      ∙ ap (λ (ys : List (List ℤ)). take i t.waiting ++ ys) (append-nil (take 1 (drop i t.waiting)))))

  sounds : length t.waiting ≤ i → take (i + 1) t.waiting ++ map (tone_frame channels t.tone) (range_with_len t.place (i + 1 - length t.waiting))
      ≡ (take i t.waiting ++ map (tone_frame channels t.tone) (range_with_len t.place (i - length t.waiting)))
      ++ (take 1 (drop i t.waiting) ++ map (tone_frame channels t.tone) (range_with_len (t.place + (i - length t.waiting)) (1 - length (drop i t.waiting))))
  sounds past =
      let grown : i + 1 - length t.waiting ≡ i - length t.waiting + 1 = omega arith in
      let none : drop i t.waiting ≡ [] = drop_all i t.waiting past in
      let all : take i t.waiting ≡ t.waiting = take_all i t.waiting past in
      let all_more : take (i + 1) t.waiting ≡ t.waiting = take_all (i + 1) t.waiting (omega arith) in
      rw (none, grown, all, all_more)
      (ap (λ (ys : List (List ℤ)). t.waiting ++ ys) (map-range_with_len_more (tone_frame channels t.tone) t.place (i - length t.waiting) (t.place + (i - length t.waiting)) refl)
      ∙ sym (append_assoc t.waiting (map (tone_frame channels t.tone) (range_with_len t.place (i - length t.waiting))) (tone_frame channels t.tone (t.place + (i - length t.waiting)) ∷ [])))

pub after_frames_more : (i : ℕ) (t : Track) → track_after_frames (i + 1) t ≡ track_after_frames 1 (track_after_frames i t)
unfolding track_after_frames
after_frames_more i t =
    let places : t.place + (i + 1 - length t.waiting) ≡ t.place + (i - length t.waiting) + (1 - length (drop i t.waiting)) = simp length-drop (omega arith) in
    let waits : drop (i + 1) t.waiting ≡ drop 1 (drop i t.waiting) = sym (drop-drop i 1 t.waiting) in
    ap (λ (n : ℕ). let s : Track = record { waiting = drop (i + 1) t.waiting; tone = t.tone; place = n } in s) places
    ∙ ap (λ (xs : List (List ℤ)). let s : Track = record { waiting = xs; tone = t.tone; place = t.place + (i - length t.waiting) + (1 - length (drop i t.waiting)) } in s) waits

-- numbers that differ by a multiple of 2^32 wrap to one
wrapped_alike : (m n : ℕ) → m % 4294967296 ≡ n % 4294967296 → wrap (pos m) ≡ wrap (pos n)
wrapped_alike m n same = int_wrap-pos m ∙ ap (to_z w32) same ∙ sym (int_wrap-pos n)

line_again : (start rise : ℤ) (m n : ℕ) → m % 4294967296 ≡ n % 4294967296 → wrap (start +ℤ (rise *ℤ pos m)) ≡ wrap (start +ℤ (rise *ℤ pos n))
line_again start rise m n same =
    let slope : wrap (rise *ℤ pos m) ≡ wrap (rise *ℤ pos n) =
    sym (int_wrap-mul_right w32 rise (pos m)) ∙ ap (λ (z : ℤ). wrap (rise *ℤ z)) (wrapped_alike m n same) ∙ int_wrap-mul_right w32 rise (pos n) in
    sym (int_wrap-add_right w32 start (rise *ℤ pos m)) ∙ ap (λ (z : ℤ). wrap (start +ℤ z)) slope ∙ int_wrap-add_right w32 start (rise *ℤ pos n)

-- a tone's samples come again after 2^32 places
pub tone_again : (tone : Tone) (place channel : ℕ) → tone_sample tone (place % 4294967296) channel ≡ tone_sample tone place channel
tone_again Silent place channel = refl
tone_again (Ramp start rise) place channel = line_again start rise (place % 4294967296 + channel) (place + channel) (omega arith)
tone_again (Noise origin) place channel =
    let inner : (origin + 32 * (place % 4294967296) + channel) % 4294967296 ≡ (origin + 32 * place + channel) % 4294967296 = omega arith in
    wrapped_alike _ _
    (sym (mul-mod_first (origin + 32 * (place % 4294967296) + channel) 2654435761 4294967296)
    ∙ ap (λ (n : ℕ). n * 2654435761 % 4294967296) inner
    ∙ mul-mod_first (origin + 32 * place + channel) 2654435761 4294967296)

pub tone_frame_again : (channels : ℕ) (tone : Tone) (place : ℕ) → tone_frame channels tone (place % 4294967296) ≡ tone_frame channels tone place
tone_frame_again channels tone place = along (range_with_len 0 channels) where
  along : (xs : List ℕ) → map (tone_sample tone (place % 4294967296)) xs ≡ map (tone_sample tone place) xs
  along [] = refl
  along (x ∷ xs) = ap (λ (s : ℤ). s ∷ map (tone_sample tone (place % 4294967296)) xs) (tone_again tone place x) ∙ ap (λ (ys : List ℤ). tone_sample tone place x ∷ ys) (along xs)
