-- The samples that a unit renders, one by one, and pin by pin.
use Rattle.std.proofs.Common.{◌≡◌, ◌∙◌, ap, refl, arith, ℕ, zero, suc, ◌+◌, ◌*◌, ◌<◌, ℤ, pos, List, [], ◌∷◌, ◌++◌, length, get_or}
use Rattle.std.specs.List.{All}
use Rattle.std.proofs.lemmas.List.FromFn.{length-map-range_with_len, get_or-map-range_with_len}
use Rattle.std.proofs.Math.ListN.{get_or-append}
use Rattle.std.proofs.Math.Seq.{get_or-append_right}
use Rattle.uac_gain.specs.Gain.{scaled_sample}
use Rattle.uac_units.specs.declared.jobs.Job.{Job}
use Rattle.uac_units.specs.declared.jobs.UnitKind.{UnitKind}
use Rattle.uac_units.specs.declared.jobs.UnitKind.TheVariants.{Mixer, Selector, Feature, Effect}
use Rattle.uac_units.specs.Rendering.{by_frames, in_a_row, pins_sample, job_samples, set_by, unit_sample}

pub length-job_samples : (kind : UnitKind) (job : Job) (pins : List ℤ) → length (job_samples kind job pins) ≡ job.outputs
unfolding job_samples
length-job_samples kind job pins = length-map-range_with_len (pins_sample kind job pins) 0 job.outputs

pub get_or-job_samples : (kind : UnitKind) (job : Job) (pins : List ℤ) (channel : ℕ) → channel < job.outputs → get_or (job_samples kind job pins) channel (pos 0) ≡ pins_sample kind job pins channel
unfolding job_samples
get_or-job_samples kind job pins channel h = get_or-map-range_with_len (pins_sample kind job pins) 0 job.outputs channel channel (pos 0) h (omega arith)

-- a channel of the first frame
first-in_a_row : (sources : List (List ℤ)) (channel : ℕ) → channel < length (get_or sources 0 []) → get_or (in_a_row sources) channel (pos 0) ≡ get_or (get_or sources 0 []) channel (pos 0)
first-in_a_row [] channel h = absurd (omega arith)
first-in_a_row (frame ∷ frames) channel h = get_or-append frame (in_a_row frames) (pos 0) channel h

-- a channel of the frame at a pin
pin-in_a_row : (sources : List (List ℤ)) (outputs pin channel : ℕ) → All (λ frame. length frame ≡ outputs) sources → pin < length sources → channel < outputs
    → get_or (in_a_row sources) (pin * outputs + channel) (pos 0) ≡ get_or (get_or sources pin []) channel (pos 0)
pin-in_a_row [] outputs pin channel each h k = absurd (omega arith)
pin-in_a_row (frame ∷ frames) outputs zero channel each h k =
    ap (λ i. get_or (frame ++ in_a_row frames) i (pos 0)) (omega arith)
    ∙ get_or-append frame (in_a_row frames) (pos 0) channel (let first : length frame ≡ outputs = each 0 [] (omega arith) in omega arith)
pin-in_a_row (frame ∷ frames) outputs (suc pin) channel each h k =
    let first : length frame ≡ outputs = each 0 [] (omega arith) in
    let others : All (λ frame. length frame ≡ outputs) frames = λ i d below. each (suc i) d (omega arith) in
    get_or-append_right frame (in_a_row frames) (suc pin * outputs + channel) (pos 0) (omega arith)
    ∙ ap (λ i. get_or (in_a_row frames) i (pos 0)) (omega arith)
    ∙ pin-in_a_row frames outputs pin channel others (omega arith) k

pub mixer-in_a_row : (job : Job) (sources : List (List ℤ)) (channel : ℕ) → pins_sample Mixer job (in_a_row sources) channel ≡ unit_sample Mixer (set_by job) (by_frames sources) channel
mixer-in_a_row job sources channel = refl

pub selector-in_a_row : (job : Job) (sources : List (List ℤ)) (channel : ℕ) → All (λ frame. length frame ≡ job.outputs) sources → job.pin < length sources → channel < job.outputs
    → pins_sample Selector job (in_a_row sources) channel ≡ unit_sample Selector (set_by job) (by_frames sources) channel
selector-in_a_row job sources channel each h k = pin-in_a_row sources job.outputs job.pin channel each h k

pub feature-in_a_row : (job : Job) (sources : List (List ℤ)) (channel : ℕ) → channel < length (get_or sources 0 [])
    → pins_sample Feature job (in_a_row sources) channel ≡ unit_sample Feature (set_by job) (by_frames sources) channel
feature-in_a_row job sources channel h =
    ap (λ sample. scaled_sample (scaled_sample sample (get_or job.gains.items (2 * channel) 0)) (get_or job.gains.items (2 * channel + 1) 0)) (first-in_a_row sources channel h)

pub effect-in_a_row : (job : Job) (sources : List (List ℤ)) (channel : ℕ) → channel < length (get_or sources 0 [])
    → pins_sample Effect job (in_a_row sources) channel ≡ unit_sample Effect (set_by job) (by_frames sources) channel
effect-in_a_row job sources channel h = first-in_a_row sources channel h
