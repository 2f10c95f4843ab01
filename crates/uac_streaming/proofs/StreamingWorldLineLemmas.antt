-- Lines of packets and of what ticks find.
use Rattle.std.proofs.Common.{◌≡◌, ◌∙◌, sym, ap, subst, refl, arith, ℕ, ◌+◌, ◌*◌, ◌/◌, ◌%◌, ◌<◌, ◌≤◌, ◌==◌, nat_le, Bool, true, false, cond, if◌then◌else◌, List, [], ◌∷◌, ◌++◌, length, map, drop, get_or, flat_map, Option, Some, None, Result, drop-cons, add-one}
use Rattle.std.specs.Prelude.{filter}
use Rattle.std.specs.Option.{option_map_or}
use Rattle.std.proofs.lemmas.List.{length-map}
use Rattle.std.specs.Io.KnownBytes.{Appends}
use Rattle.uac_edges.specs.Writing.{Writes}
use Rattle.uac_pcm.specs.Packets.{frames_of_bytes, whole_frames}
use Rattle.uac_pcm.specs.Frames.{frame_of_bytes}
use Rattle.uac_pcm.proofs.PacketsLemmas.{length-first_chunks}
use Rattle.std.specs.Simd.{first_chunks}
use Rattle.uac_host.specs.HostWorld.{HostWorld, Pace}
use Rattle.uac_host.specs.HostCalls.{heard_in}
use Rattle.uac_ring.specs.declared.arrival.Arrival.{Arrival}
use Rattle.uac_ring.specs.declared.arrival.Arrival.TheVariants as arrivals
use Rattle.uac_device.specs.InterfaceStreams.{set_of_streams}
use Rattle.uac_transcript.specs.Transcript.{Said, says_out, says_over, spelling_of}
use Rattle.uac_transcript.specs.Printing.{Prints, text_of}
use Rattle.uac_transcript.proofs.PrintingLemmas.{Prints-after, Prints-line}
use Rattle.uac_streaming.specs.StreamingWorld.{out_lines, over_lines}

-- a packet that was over
pub over_told : {T E : Type 0} (old mid new : Option (List ℕ)) (r : Result T E) (detail interface frames : ℕ) (arrival : Arrival) → arrival ≡ arrivals.Over
    → Appends old mid (text_of (if nat_le 2 detail then says_out interface frames arrival ∷ [] else []))
    → Writes mid new r (spelling_of (says_over interface)) → Prints old new r (out_lines detail interface frames arrival)
over_told old mid new r detail interface frames arrival is before over =
    Prints-after old mid new r (if nat_le 2 detail then says_out interface frames arrival ∷ [] else []) (over_lines interface arrival) before
    (subst (λ (a : Arrival). Prints mid new r (over_lines interface a)) (sym is) (Prints-line mid new r (says_over interface) over))

-- ---- frames that are heard

-- bytes have no more whole frames than there are bytes
few_frames : (n size : ℕ) → n / size ≤ n
few_frames n size = omega arith

-- a packet of so many bytes has no more frames
pub heard_few : (w : HostWorld) (interface : ℕ) (bytes : List ℕ) (most : ℕ) → length bytes ≤ most → length (heard_in w interface bytes) ≤ most
unfolding heard_in
heard_few w interface bytes most few = of (w.paces interface)
  where
    of : (o : Option Pace) → length (option_map_or (λ p. frames_of_bytes p.stream.channels p.stream.subslot p.stream.bits bytes) o []) ≤ most
    of None = omega arith
    of (Some p) =
        let size : ℕ = p.stream.channels * p.stream.subslot in
        let a = length-map (first_chunks size (whole_frames p.stream.channels p.stream.subslot bytes) bytes) (frame_of_bytes p.stream.channels p.stream.subslot p.stream.bits) in
        let b = length-first_chunks size (whole_frames p.stream.channels p.stream.subslot bytes) bytes in
        omega (arith, few, a, b, few_frames (length bytes) size)

-- ---- what ticks find

-- a line for each of the items that a test keeps
pub kept_only : {X : Type 0} (f : X → Said) (p : X → Bool) (xs : List X) → map f (filter p xs) ≡ flat_map (λ x. if p x then f x ∷ [] else []) xs
kept_only f p [] = refl
kept_only f p (x ∷ xs) = first (p x) ∙ ap (λ ys. (if p x then f x ∷ [] else []) ++ ys) (kept_only f p xs)
  where
    first : (b : Bool) → map f (cond b (x ∷ filter p xs) (filter p xs)) ≡ (if b then f x ∷ [] else []) ++ map f (filter p xs)
    first true = refl
    first false = refl

-- the bit of the first, and the bits of the rest
bit_of_first : (b : Bool) (n : ℕ) → (((if b then 1 else 0) + 2 * n) % 2 == 1) ≡ b
bit_of_first true n = let one : (1 + 2 * n) % 2 ≡ 1 = omega arith in ap (λ (k : ℕ). k == 1) one
bit_of_first false n = let none : (0 + 2 * n) % 2 ≡ 0 = omega arith in ap (λ (k : ℕ). k == 1) none

bits_of_rest : (b : Bool) (n : ℕ) → ((if b then 1 else 0) + 2 * n) / 2 ≡ n
bits_of_rest true n = omega arith
bits_of_rest false n = omega arith

module _ {X : Type 0} (test : X → Bool) (xs : List X) (i : ℕ) (d : X) (bits : ℕ) (below : i < length xs) (is : bits ≡ set_of_streams (map test (drop i xs))) where
  bits_split : bits ≡ (if test (get_or xs i d) then 1 else 0) + 2 * set_of_streams (map test (drop (i + 1) xs))
  unfolding set_of_streams
  bits_split = is ∙ ap (λ (ys : List X). set_of_streams (map test ys)) (drop-cons xs i d below) ∙ rw add-one refl

  -- whether this one was found
  pub found_here : (bits % 2 == 1) ≡ test (get_or xs i d)
  found_here = ap (λ (n : ℕ). n % 2 == 1) bits_split ∙ bit_of_first (test (get_or xs i d)) (set_of_streams (map test (drop (i + 1) xs)))

  -- and the bits of the rest
  pub found_rest : bits / 2 ≡ set_of_streams (map test (drop (i + 1) xs))
  found_rest = ap (λ (n : ℕ). n / 2) bits_split ∙ bits_of_rest (test (get_or xs i d)) (set_of_streams (map test (drop (i + 1) xs)))
