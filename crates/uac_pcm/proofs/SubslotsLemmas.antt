-- A sample that was cut, and its subslot.
use Rattle.std.proofs.Common.{◌≡◌, ℕ, zero, suc, ◌+◌, ◌-◌, ◌*◌, ◌/◌, ◌^◌, ◌<◌, ◌≤◌, ℤ, pos, negsuc, ◌*ℤ◌, FitsSigned, to_z, of_z, w32, take, List, [], ◌++◌, arith, ap, ◌∙◌, sym, refl}
use Rattle.std.proofs.Math.Nat.{mod-eq_of_lt, mod-lt, pow-suc, mul-lt-mul_of_pos_right}
use Rattle.std.proofs.lemmas.List.{append-nil}
use Rattle.std.proofs.lemmas.Nat.{pow_pos, pow-add}
use Rattle.byteorder.specs.Endian.{little_bytes, little_number}
use Rattle.byteorder.specs.Numbers.{little_number-reads_back}
use Rattle.uac_pcm.specs.Subslots.{floor_of, modulo, wrap, cut_to, subslot_of, sample_of_subslot}
use Rattle.uac_pcm.proofs.TonesWrapLemmas.{int_wrap-pos}
use Rattle.uac_pcm.proofs.SubslotsRoundingLemmas.{fits-rounded, top_bits, finer_multiple, multiple_comes_back}

-- powers of two whose exponents add up
pub pow-mul : (i j k : ℕ) → i + j ≡ k → 2 ^ i * 2 ^ j ≡ 2 ^ k
pow-mul i j k e = sym (pow-add 2 i j) ∙ ap (λ (n : ℕ). 2 ^ n) e

-- bytes as powers of two
pub pow-bytes : (size : ℕ) → 256 ^ size ≡ 2 ^ (8 * size)
pow-bytes zero = refl
pow-bytes (suc size) =
    let exponent : 8 * size + 8 ≡ 8 * suc size = omega arith in
    pow-suc 256 size ∙ ap (λ (n : ℕ). n * 256) (pow-bytes size) ∙ pow-mul (8 * size) 8 (8 * suc size) exponent

-- a sample that was cut is cut
pub cut_to-cut_to : (resolution : ℕ) (sample : ℤ) → cut_to resolution (cut_to resolution sample) ≡ cut_to resolution sample
unfolding cut_to
cut_to-cut_to resolution sample =
    finer_multiple sample (2 ^ (32 - resolution)) 1 (2 ^ (32 - resolution)) (pow_pos (32 - resolution)) (pow_pos (32 - resolution)) (omega arith)

-- a sample that was cut has 32 bits
pub fits-cut_to : (resolution : ℕ) (sample : ℤ) → 1 ≤ resolution → resolution ≤ 32 → FitsSigned w32 sample → FitsSigned w32 (cut_to resolution sample)
unfolding cut_to
fits-cut_to resolution sample low high fits =
    fits-rounded sample (2 ^ (32 - resolution)) (2 ^ (resolution - 1)) (pow_pos (32 - resolution)) (pow-mul (resolution - 1) (32 - resolution) 31 (omega arith)) fits

-- a sample that was cut is a multiple of what its subslot leaves out
coarse : (size resolution : ℕ) (sample : ℤ) → size ≤ 4 → resolution ≤ 8 * size
    → floor_of (cut_to resolution sample) (2 ^ (32 - 8 * size)) *ℤ pos (2 ^ (32 - 8 * size)) ≡ cut_to resolution sample
unfolding cut_to
coarse size resolution sample room high =
    finer_multiple sample (2 ^ (32 - resolution)) (2 ^ (8 * size - resolution)) (2 ^ (32 - 8 * size)) (pow_pos (32 - resolution)) (pow_pos (32 - 8 * size))
    (sym (pow-mul (8 * size - resolution) (32 - 8 * size) (32 - resolution) (omega arith)))

-- the subslot of a sample reads as the sample, cut
pub sample_of_subslot-subslot_of : (size resolution : ℕ) (sample : ℤ) → size ≤ 4 → 1 ≤ resolution → resolution ≤ 8 * size → FitsSigned w32 sample
    → sample_of_subslot size resolution (subslot_of size resolution sample) ≡ cut_to resolution sample
unfolding subslot_of sample_of_subslot
sample_of_subslot-subslot_of size resolution sample room low high fits =
    let unit : ℕ = 2 ^ (32 - 8 * size) in
    let parts : ℕ = 2 ^ (8 * size) in
    let t : ℤ = cut_to resolution sample in
    let number : ℕ = modulo (floor_of t unit) parts in
    let small : number < parts = number-lt (floor_of t unit) parts (pow_pos (8 * size)) in
    let read : little_number size (little_bytes size number) ≡ number = read_alone number (rw (pow-bytes size) small) in
    let whole : parts * unit ≡ 4294967296 = pow-mul (8 * size) (32 - 8 * size) 32 (omega arith) in
    let scaled : number * unit < 4294967296 = rw (← whole) (mul-lt-mul_of_pos_right small (pow_pos (32 - 8 * size))) in
    let back : to_z w32 (number * unit) ≡ t =
    multiple_comes_back t unit parts (pow_pos (32 - 8 * size)) (pow_pos (8 * size)) whole (fits-cut_to resolution sample low (omega arith) fits) (coarse size resolution sample room high) in
    ap (λ (n : ℕ). cut_to resolution (wrap (pos (n * unit)))) read
    ∙ ap (cut_to resolution) (int_wrap-pos (number * unit) ∙ ap (to_z w32) (mod-eq_of_lt scaled) ∙ back)
    ∙ cut_to-cut_to resolution sample where
      number-lt : (z : ℤ) (n : ℕ) → 0 < n → modulo z n < n
      number-lt (pos a) n some = mod-lt a some
      number-lt (negsuc a) n some = omega arith

      read_alone : (n : ℕ) → n < 256 ^ size → little_number size (little_bytes size n) ≡ n
      read_alone n small = ap (little_number size) (sym (append-nil (little_bytes size n))) ∙ little_number-reads_back size n [] small

-- the first bytes of four
pub take-four_bytes : (size n : ℕ) (rest : List ℕ) → size ≤ 4 → take size (little_bytes 4 n ++ rest) ≡ little_bytes size n
take-four_bytes zero n rest few = refl
take-four_bytes (suc zero) n rest few = refl
take-four_bytes (suc (suc zero)) n rest few = refl
take-four_bytes (suc (suc (suc zero))) n rest few = refl
take-four_bytes (suc (suc (suc (suc zero)))) n rest few = refl
take-four_bytes (suc (suc (suc (suc (suc k))))) n rest few = absurd (omega arith)

-- the uppermost bytes of a sample that was cut make its subslot
pub subslot-top_bytes : (size resolution : ℕ) (sample t : ℤ) → size ≤ 4 → FitsSigned w32 t → t ≡ cut_to resolution sample
    → little_bytes size (of_z w32 t / 2 ^ (32 - 8 * size)) ≡ subslot_of size resolution sample
unfolding subslot_of
subslot-top_bytes size resolution sample t few fits same =
    let whole : 2 ^ (8 * size) * 2 ^ (32 - 8 * size) ≡ 4294967296 = pow-mul (8 * size) (32 - 8 * size) 32 (omega arith) in
    ap (little_bytes size) (top_bits t (2 ^ (32 - 8 * size)) (2 ^ (8 * size)) (pow_pos (32 - 8 * size)) (pow_pos (8 * size)) whole fits)
    ∙ ap (λ (z : ℤ). little_bytes size (modulo (floor_of z (2 ^ (32 - 8 * size))) (2 ^ (8 * size)))) same
