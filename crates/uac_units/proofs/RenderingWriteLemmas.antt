-- Samples that are written over others, one by one.
use Rattle.std.proofs.Common.{◌≡◌, ◌∙◌, refl, sym, ap, arith, ℕ, ◌+◌, ◌<◌, ℤ, pos, List, [], ◌∷◌, ◌++◌, length, map, set, take, take_all}
use Rattle.std.specs.List.{range_with_len}
use Rattle.std.proofs.lemmas.List.{ext_get_or, length-set, take_more_set}
use Rattle.std.proofs.lemmas.List.FromFn.{get_or-map-range_with_len, length-map-range_with_len, map-range_with_len_more}
use Rattle.uac_units.specs.declared.jobs.Job.{Job}
use Rattle.uac_units.specs.declared.jobs.UnitKind.{UnitKind}
use Rattle.uac_units.specs.declared.jobs.UnitKind.TheVariants.{Mixer, Selector, Feature, Effect}
use Rattle.uac_units.specs.Rendering.{FitsKind, input, job_samples}

-- of so many channels the first are what they are to be
pub record AreWritten (sample : ℕ → ℤ) (channels count : ℕ) (out : List ℤ) : Type 0 where
  pub sized : length out ≡ channels
  pub front : take count out ≡ map sample (range_with_len 0 count)

pub none_yet : (sample : ℕ → ℤ) (channels : ℕ) (out : List ℤ) → length out ≡ channels → AreWritten sample channels 0 out
none_yet sample channels out sized = record { sized = sized; front = refl }

pub one_more : (sample : ℕ → ℤ) (channels count : ℕ) (out : List ℤ) (z : ℤ) → count < channels → AreWritten sample channels count out → z ≡ sample count
    → AreWritten sample channels (count + 1) (set out count z)
one_more sample channels count out z below written is = record {
  sized = length-set out count z ∙ written.sized;
  front =
      take_more_set out count z (omega (arith, written.sized))
      ∙ ap (λ front. front ++ z ∷ []) written.front
      ∙ ap (λ last. map sample (range_with_len 0 count) ++ last ∷ []) is
      ∙ sym (map-range_with_len_more sample 0 count count (omega arith));
}

pub all_written : (sample : ℕ → ℤ) (channels count : ℕ) (out : List ℤ) → count ≡ channels → AreWritten sample channels count out
    → out ≡ map sample (range_with_len 0 channels)
all_written sample channels count out all written =
    sym (take_all count out (omega (arith, written.sized))) ∙ written.front ∙ ap (λ n. map sample (range_with_len 0 n)) all

-- the inputs, one by one
pub inputs_alone : (inputs : List ℤ) (channels : ℕ) → length inputs ≡ channels → inputs ≡ map (input inputs) (range_with_len 0 channels)
inputs_alone inputs channels sized =
    ext_get_or (pos 0) inputs (map (input inputs) (range_with_len 0 channels))
    (sized ∙ sym (length-map-range_with_len (input inputs) 0 channels))
    (λ i below. sym (get_or-map-range_with_len (input inputs) 0 channels i i (pos 0) (omega (arith, sized)) (omega arith)))

-- an effect's samples are its inputs
pub effect_alone : (kind : UnitKind) (job : Job) (inputs : List ℤ) → kind ≡ Effect → FitsKind kind job inputs → inputs ≡ job_samples kind job inputs
unfolding job_samples
effect_alone Effect job inputs e fits = inputs_alone inputs job.outputs fits.numbers
effect_alone Mixer job inputs e fits = absurd (cc)
effect_alone Selector job inputs e fits = absurd (cc)
effect_alone Feature job inputs e fits = absurd (cc)
