-- The oldest frame of a ring is the first that came and is not gone; the silent frames of a ring come last.
use Rattle.std.proofs.Common.{◌≡◌, ◌∙◌, ℕ, zero, suc, ◌+◌, ◌-◌, ◌<◌, ◌≤◌, ℤ, List, ◌∷◌, [], ◌++◌, length, drop, map, replicate, slice_get, arith, ap, sym, refl, append_assoc}
use Rattle.std.proofs.lemmas.List.{drop-append-le, drop-map, length-map, places, replicate-append-replicate, same_lists}
use Rattle.uac_pcm.proofs.PacketsLemmas.{drop-drop}
use Rattle.uac_ring.specs.Rings.{Holds}

-- the oldest frame
pub oldest_came : (came ring : List (List ℤ)) (gone : ℕ) → Holds came gone ring → slice_get ring 0 ≡ slice_get came gone
oldest_came came ring gone held = ap (λ (r : List (List ℤ)). slice_get r 0) held.1 ∙ oldest_left came gone
  where
    oldest_left : (came : List (List ℤ)) (gone : ℕ) → slice_get (drop gone came) 0 ≡ slice_get came gone
    oldest_left [] zero = refl
    oldest_left [] (suc gone) = refl
    oldest_left (frame ∷ came) zero = refl
    oldest_left (frame ∷ came) (suc gone) = oldest_left came gone

-- and a ring without it
pub one_gone : (came ring left : List (List ℤ)) (gone : ℕ) → left ≡ drop 1 ring → Holds came gone ring → gone < length came → Holds came (gone + 1) left
one_gone came ring left gone others held some =
    (omega (arith, some), others ∙ ap (λ (r : List (List ℤ)). drop 1 r) held.1 ∙ drop-drop gone 1 came)

-- of frames and silent ones after them, the oldest go: fewer than lie there, or these and some of the silent ones
pub laid_gone : {X : Type 0} (v : X → List ℤ) (items : List X) (count silent : ℕ) (silence : List ℤ) → count ≤ length items
    → map v (drop count items) ++ replicate silent silence ≡ drop count (map v items ++ replicate silent silence)
laid_gone v items count silent silence few =
    ap (λ (fs : List (List ℤ)). fs ++ replicate silent silence) (sym (drop-map v count items))
    ∙ sym (drop-append-le count (map v items) (replicate silent silence) (omega (arith, few, length-map items v)))

pub silent_gone : (laid : List (List ℤ)) (count silent : ℕ) (silence : List ℤ) → length laid ≤ count
    → replicate (silent - (count - length laid)) silence ≡ drop count (laid ++ replicate silent silence)
silent_gone laid count silent silence most = same_lists _ _ (grind (arith, places)) (λ k d h. grind (arith, places))

-- more of them come
pub silent_more : (laid ring : List (List ℤ)) (count more : ℕ) (silence zeros : List ℤ) → laid ++ replicate count silence ≡ ring → silence ≡ zeros
    → laid ++ replicate (count + more) silence ≡ ring ++ replicate more zeros
silent_more laid ring count more silence zeros seen same =
    ap (λ (fs : List (List ℤ)). laid ++ fs) (sym (replicate-append-replicate count more silence))
    ∙ sym (append_assoc laid (replicate count silence) (replicate more silence))
    ∙ ap (λ (r : List (List ℤ)). r ++ replicate more silence) seen
    ∙ ap (λ (z : List ℤ). ring ++ replicate more z) same
