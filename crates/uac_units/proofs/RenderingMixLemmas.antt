-- The sum of a mixer, input by input.
use Rattle.std.proofs.Common.{◌≡◌, ◌∙◌, ap, arith, ℕ, ◌+◌, ◌*◌, ℤ, pos, ◌+ℤ◌, ◌≤◌, ◌<◌, sym, zero, suc, unsigned_abs, to_z, of_z, w32, w64, slice_index, List, [], ◌∷◌, map}
use lib.Signed.{mag}
use Rattle.std.specs.List.{fold, range_with_len}
use Rattle.std.proofs.lemmas.List.Sums.{fold-append}
use Rattle.std.proofs.lemmas.List.FromFn.{map-range_with_len_more}
use Rattle.std.proofs.lemmas.Int.{ints}
use Rattle.uac_units.specs.declared.jobs.Job.{Job}
use Rattle.std.specs.Simd.Lanes.{Each1, zip2}
use Rattle.uac_units.specs.SampleLanes.{SumFits, eight}
use Rattle.uac_units.specs.Rendering.{input}
use Rattle.uac_gain.specs.Gain.{product_floor, scaled_sample}
use Rattle.uac_units.proofs.SampleLanesLemmas.{nearest_in_32_bits-mag, eight-same, eight-each}

-- one input, scaled by the gain of its node
abbrev pub node : Job → List ℤ → ℕ → ℕ → ℤ
node job pins channel at = scaled_sample (input pins at) (slice_index job.gains.items (at * job.outputs + channel))

-- the first n inputs together
abbrev pub mixed_front : Job → List ℤ → ℕ → ℕ → ℤ
mixed_front job pins channel n = fold (λ sum sample. sum +ℤ sample) (pos 0) (map (node job pins channel) (range_with_len 0 n))

pub mixed_front_more : (job : Job) (pins : List ℤ) (channel n : ℕ) → mixed_front job pins channel (n + 1) ≡ mixed_front job pins channel n +ℤ node job pins channel n
mixed_front_more job pins channel n =
    ap (fold (λ sum sample. sum +ℤ sample) (pos 0)) (map-range_with_len_more (node job pins channel) 0 n n (omega arith))
    ∙ fold-append (λ sum sample. sum +ℤ sample) (pos 0) (map (node job pins channel) (range_with_len 0 n)) (node job pins channel n ∷ [])

-- the code's sum of 64 bits is the sum, at up to 256 inputs
pub sum_fits : (sum sample : ℤ) (at : ℕ) → unsigned_abs sum ≤ 2147483648 * at → at ≤ 256 → mag sample < 2147483648
    → to_z w64 (of_z w64 (sum +ℤ to_z w64 (of_z w64 (to_z w32 (of_z w32 sample))))) ≡ sum +ℤ sample
sum_fits sum sample at small few fits = omega (arith, ints)

pub sum-bound : (sum sample : ℤ) (at : ℕ) → unsigned_abs sum ≤ 2147483648 * at → mag sample < 2147483648
    → unsigned_abs (sum +ℤ sample) ≤ 2147483648 * (at + 1)
sum-bound sum sample at small fits = omega (arith, ints)

-- a mixer has no more inputs than gains
pub few_inputs : (inputs outputs gains : ℕ) → 1 ≤ outputs → gains ≡ inputs * outputs → gains ≤ 256 → inputs ≤ 256
few_inputs inputs outputs gains some counted few = grind arith

-- ---- in lanes

pub mixed-bound : (job : Job) (pins : List ℤ) (channel n : ℕ) → unsigned_abs (mixed_front job pins channel n) ≤ 2147483648 * n
mixed-bound job pins channel zero = omega (arith, ints)
mixed-bound job pins channel (suc n) =
    let sum = mixed_front job pins channel n in
    let sample = node job pins channel n in
    let fits : mag sample < 2147483648 = nearest_in_32_bits-mag (product_floor (input pins n) (slice_index job.gains.items (n * job.outputs + channel))) in
    let next : suc n ≡ n + 1 = omega arith in
    let more : unsigned_abs (mixed_front job pins channel (suc n)) ≡ unsigned_abs (sum +ℤ sample) =
    ap (λ k. unsigned_abs (mixed_front job pins channel k)) next ∙ ap unsigned_abs (mixed_front_more job pins channel n) in
    let bound = sum-bound sum sample n (mixed-bound job pins channel n) fits in
    omega (arith, more, bound)

pub mixed-room : (job : Job) (pins : List ℤ) (from at : ℕ) → at ≤ 256 → Each1 SumFits (eight (λ lane. mixed_front job pins (from + lane) at))
mixed-room job pins from at few =
    eight-each SumFits (λ lane. mixed_front job pins (from + lane) at)
    (λ lane. let bound = mixed-bound job pins (from + lane) at in omega (arith, bound))

-- eight sums and one more input, scaled by the gains of its nodes
pub nodes-more : (job : Job) (pins : List ℤ) (from at : ℕ) (sums : List ℤ) (gains : List ℕ) → sums ≡ eight (λ lane. mixed_front job pins (from + lane) at)
    → gains ≡ eight (λ lane. slice_index job.gains.items (at * job.outputs + from + lane))
    → zip2 (λ sum gain. sum +ℤ scaled_sample (input pins at) gain) sums gains ≡ eight (λ lane. mixed_front job pins (from + lane) (at + 1))
nodes-more job pins from at sums gains e f =
    ap (λ ss. zip2 (λ sum gain. sum +ℤ scaled_sample (input pins at) gain) ss gains) e
    ∙ ap (zip2 (λ sum gain. sum +ℤ scaled_sample (input pins at) gain) (eight (λ lane. mixed_front job pins (from + lane) at))) f
    ∙ eight-same (λ lane. mixed_front job pins (from + lane) at +ℤ scaled_sample (input pins at) (slice_index job.gains.items (at * job.outputs + from + lane)))
    (λ lane. mixed_front job pins (from + lane) (at + 1))
    (λ lane. let place : at * job.outputs + from + lane ≡ at * job.outputs + (from + lane) = omega arith in
    ap (λ i. mixed_front job pins (from + lane) at +ℤ scaled_sample (input pins at) (slice_index job.gains.items i)) place
    ∙ sym (mixed_front_more job pins (from + lane) at))
