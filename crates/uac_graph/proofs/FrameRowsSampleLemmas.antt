-- Lists of one and of two samples, written one by one, and read.
use Rattle.std.proofs.Common.{◌≡◌, refl, sym, arith, ap, ◌∙◌, ◌≤◌, ℕ, ℤ, pos, List, [], ◌∷◌, Option, Some, None, length, get_or, set, replicate, unwrap_or}
use Rattle.std.specs.Option.{option_map}
use Rattle.std.proofs.lemmas.Option.{same_Some}
use Rattle.arrayvec.specs.declared.array_vec.ArrayVec.{ArrayVec}
use Rattle.uac_graph.specs.FrameRows.{slot_after_passing}

pub one_written : (list samples : List ℤ) (z : ℤ) → length list ≡ length samples → length samples ≡ 1 → z ≡ get_or samples 0 (pos 0) → set list 0 z ≡ samples
one_written (y ∷ []) (x ∷ []) z same one is = ap (λ (s : ℤ). s ∷ []) is
one_written [] samples z same one is = absurd (omega (arith, same, one))
one_written (y ∷ w ∷ list) samples z same one is = absurd (omega (arith, same, one))
one_written (y ∷ []) [] z same one is = absurd (omega (arith, one))
one_written (y ∷ []) (x ∷ w ∷ samples) z same one is = absurd (omega (arith, one))

pub two_written : (list samples : List ℤ) (a b : ℤ) → length list ≡ length samples → length samples ≡ 2 → a ≡ get_or samples 0 (pos 0) → b ≡ get_or samples 1 (pos 0)
    → set (set list 0 a) 1 b ≡ samples
two_written (y ∷ v ∷ []) (x ∷ w ∷ []) a b same two left right = ap (λ (s : ℤ). s ∷ b ∷ []) left ∙ ap (λ (s : ℤ). x ∷ s ∷ []) right
two_written [] samples a b same two left right = absurd (omega (arith, same, two))
two_written (y ∷ []) samples a b same two left right = absurd (omega (arith, same, two))
two_written (y ∷ v ∷ u ∷ list) samples a b same two left right = absurd (omega (arith, same, two))
two_written (y ∷ v ∷ []) [] a b same two left right = absurd (omega (arith, two))
two_written (y ∷ v ∷ []) (x ∷ []) a b same two left right = absurd (omega (arith, two))
two_written (y ∷ v ∷ []) (x ∷ w ∷ t ∷ samples) a b same two left right = absurd (omega (arith, two))

pub one_hushed : (list : List ℤ) → length list ≡ 1 → set list 0 (pos 0) ≡ replicate (length list) (pos 0)
one_hushed (y ∷ []) one = refl
one_hushed [] one = absurd (omega (arith, one))
one_hushed (y ∷ w ∷ list) one = absurd (omega (arith, one))

pub two_hushed : (list : List ℤ) → length list ≡ 2 → set (set list 0 (pos 0)) 1 (pos 0) ≡ replicate (length list) (pos 0)
two_hushed (y ∷ w ∷ []) two = refl
two_hushed [] two = absurd (omega (arith, two))
two_hushed (y ∷ []) two = absurd (omega (arith, two))
two_hushed (y ∷ w ∷ v ∷ list) two = absurd (omega (arith, two))

-- what two channels were read as
pub two_samples : (samples : List ℤ) (a b : ℤ) → length samples ≡ 2 → a ≡ get_or samples 0 (pos 0) → b ≡ get_or samples 1 (pos 0) → samples ≡ a ∷ b ∷ []
two_samples (x ∷ w ∷ []) a b two left right = ap (λ (s : ℤ). s ∷ w ∷ []) (sym left) ∙ ap (λ (s : ℤ). a ∷ s ∷ []) (sym right)
two_samples [] a b two left right = absurd (omega (arith, two))
two_samples (x ∷ []) a b two left right = absurd (omega (arith, two))
two_samples (x ∷ w ∷ t ∷ samples) a b two left right = absurd (omega (arith, two))

-- a frame that was written into a slot where there is one, as its source was read
pub read_and_written : (source held slot : Option (ArrayVec ℤ 32 (Unit {0}))) (samples : List ℤ) (count : ℕ)
    → unwrap_or (option_map (λ f. f.items) source) [] ≡ samples → 1 ≤ length samples
    → option_map (λ f. length f.items) held ≡ Some count → option_map (λ f. f.items) slot ≡ Some samples → slot ≡ slot_after_passing source held
read_and_written (Some f) (Some h) (Some p) samples count read some there written =
    ap (λ (items : List ℤ). Some (record { items = items })) (same_Some p.items samples written ∙ sym read)
read_and_written None held slot samples count read some there written = absurd (omega (arith, some, ap length read))
read_and_written (Some f) None slot samples count read some there written = absurd (cc)
read_and_written (Some f) (Some h) None samples count read some there written = absurd (cc)

-- how many samples a frame has
pub lengths_of : (frame : Option (ArrayVec ℤ 32 (Unit {0}))) → option_map (λ f. length f.items) frame ≡ option_map length (option_map (λ f. f.items) frame)
lengths_of (Some f) = refl
lengths_of None = refl
