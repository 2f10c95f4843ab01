-- Samples of 32 bits stay such: in tones, and on the wires of a signal graph.
use Rattle.std.proofs.Common.{◌≡◌, ◌∙◌, refl, sym, ap, subst, arith, ℕ, zero, suc, inl, inr, Bool, true, false, if◌then◌else◌, ℤ, pos, w32, FitsSigned, List, [], ◌∷◌, length, map, get_or, slice_index_or}
use Rattle.std.specs.List.{All, range_with_len}
use Rattle.std.proofs.lemmas.Bool.{cases_lt}
use Rattle.std.proofs.lemmas.Int.{SFits-int_wrap}
use Rattle.std.proofs.lemmas.List.{get_or_past, length-map, length-replicate}
use Rattle.std.proofs.lemmas.List.Elements.{All-nil, All-map, All-replicate}
use Rattle.std.proofs.lemmas.List.FromFn.{length-range_with_len}
use Rattle.uac_pcm.specs.Packets.{IsFrame}
use Rattle.uac_pcm.specs.Tones.{tone_frame, tone_sample}
use Rattle.uac_pcm.specs.declared.tones.Tone.{Tone}
use Rattle.uac_pcm.specs.declared.tones.Tone.TheVariants.{Silent, Ramp, Noise}
use Rattle.uac_gain.specs.Gain.{nearest_in_32_bits, product_floor, scaled_sample}
use Rattle.uac_entities.specs.declared.entity.Entity.{Entity}
use Rattle.uac_entities.specs.declared.entity.EntityKind.{EntityKind}
use Rattle.uac_entities.specs.declared.entity.EntityKind.TheVariants as kind
use Rattle.uac_topology_rules.specs.Clusters.{is_input}
use Rattle.uac_topology_rules.specs.Links.{signal_sources}
use Rattle.uac_topology_rules.specs.Table.{at, index_of}
use Rattle.uac_units.proofs.SampleLanesLemmas.{nearest_in_32_bits-fits}
use Rattle.uac_units.specs.Rendering.{by_frames, input, job_sum, pin_frame}
use Rattle.uac_graph.specs.GraphControls.{Controls}
use Rattle.uac_graph.specs.Meaning.{entity, frame_of, meaning, sample_of, samples, samples_by, set_by_controls}
use Rattle.uac_graph.specs.Wiring.{silence}

-- each sample has 32 bits
abbrev pub Fit : List ℤ → Type 0
Fit frame = All (FitsSigned w32) frame

-- ---- tones

pub zero_fits : FitsSigned w32 (pos 0)
zero_fits = record { sfits = omega arith }

tone_fits : (tone : Tone) (place channel : ℕ) → FitsSigned w32 (tone_sample tone place channel)
tone_fits Silent place channel = zero_fits
tone_fits (Ramp start rise) place channel = SFits-int_wrap w32 _
tone_fits (Noise origin) place channel = SFits-int_wrap w32 _

pub IsFrame-tone : (channels : ℕ) (tone : Tone) (place : ℕ) → IsFrame channels (tone_frame channels tone place)
IsFrame-tone channels tone place = (
  length-map (range_with_len 0 channels) (tone_sample tone place) ∙ length-range_with_len 0 channels,
  All-map (FitsSigned w32) (tone_sample tone place) (range_with_len 0 channels) (λ k d inside. tone_fits tone place (get_or (range_with_len 0 channels) k d)),
)

pub IsFrame-silence : (channels : ℕ) → IsFrame channels (silence channels)
IsFrame-silence channels = (length-replicate channels (pos 0), All-replicate (FitsSigned w32) channels (pos 0) zero_fits)

-- ---- a graph

input_fits : (frame : List ℤ) (k : ℕ) → Fit frame → FitsSigned w32 (input frame k)
input_fits frame k fits = elim (cases_lt k (length frame)) [
  | inl inside ↦ fits k (pos 0) inside
  | inr past ↦ subst (FitsSigned w32) (sym (get_or_past frame k (pos 0) past)) zero_fits
]

pub pin_fits : (frames : List (List ℤ)) (k : ℕ) → All Fit frames → Fit (slice_index_or frames k [])
pin_fits frames k fits = elim (cases_lt k (length frames)) [
  | inl inside ↦ fits k [] inside
  | inr past ↦ subst Fit (sym (get_or_past frames k [] past)) (All-nil (FitsSigned w32))
]

nearest_fits : (z : ℤ) → FitsSigned w32 (nearest_in_32_bits z)
nearest_fits z = (nearest_in_32_bits-fits (z ∷ [])).0

sample_fits : (controls : Controls) (id : ℕ) (k : EntityKind) (outputs : ℕ) (frames : List (List ℤ)) (channel : ℕ) → All Fit frames
    → FitsSigned w32 (sample_of controls id k outputs frames channel)
sample_fits controls id kind.Mixer outputs frames channel fits =
    nearest_fits (job_sum (set_by_controls controls id outputs (length frames)).node (by_frames frames).all channel)
sample_fits controls id kind.Selector outputs frames channel fits = input_fits _ channel (pin_fits frames _ fits)
sample_fits controls id kind.Feature outputs frames channel fits =
    let set = set_by_controls controls id outputs (length frames) in
    nearest_fits (product_floor (scaled_sample ((by_frames frames).of_only channel) (set.own channel)) (set.master channel))
sample_fits controls id kind.Effect outputs frames channel fits = input_fits (pin_frame frames 0) channel (pin_fits frames 0 fits)
sample_fits controls id kind.OutputTerminal outputs frames channel fits = input_fits (pin_frame frames 0) channel (pin_fits frames 0 fits)
sample_fits controls id kind.InputTerminal outputs frames channel fits = zero_fits
sample_fits controls id kind.ClockSource outputs frames channel fits = zero_fits
sample_fits controls id kind.ClockSelector outputs frames channel fits = zero_fits
sample_fits controls id kind.ClockMultiplier outputs frames channel fits = zero_fits

frame_fits : (controls : Controls) (id : ℕ) (k : EntityKind) (outputs : ℕ) (frames : List (List ℤ)) → All Fit frames → Fit (frame_of controls id k outputs frames)
unfolding frame_of
frame_fits controls id k outputs frames fits =
    All-map (FitsSigned w32) (sample_of controls id k outputs frames) (range_with_len 0 outputs)
    (λ i d inside. sample_fits controls id k outputs frames (get_or (range_with_len 0 outputs) i d) fits)

samples_fit : (n : ℕ) (entities : List Entity) (controls : Controls) (ins : ℕ → List ℤ) → ((id : ℕ) → Fit (ins id)) → (id : ℕ)
    → Fit (samples n entities controls ins id)
unfolding samples samples_by
samples_fit zero entities controls ins fits id = All-nil (FitsSigned w32)
samples_fit (suc n) entities controls ins fits id = by (is_input (entity entities id).kind) (samples_fit n entities controls ins fits)
  where
    e : Entity
    e = entity entities id

    by : (b : Bool) → ((k : ℕ) → Fit (samples n entities controls ins k))
        → Fit (if b then ins id else frame_of controls id e.kind e.cluster.channels (map (samples n entities controls ins) (signal_sources e)))
    by true below = fits id
    by false below =
        frame_fits controls id e.kind e.cluster.channels (map (samples n entities controls ins) (signal_sources e))
        (All-map Fit (samples n entities controls ins) (signal_sources e) (λ k d inside. below (get_or (signal_sources e) k d)))

pub meaning_fits : (entities : List Entity) (controls : Controls) (ins : ℕ → List ℤ) → ((id : ℕ) → Fit (ins id)) → (id : ℕ) → Fit (meaning entities controls ins id)
unfolding meaning
meaning_fits entities controls ins fits id = samples_fit (length entities) entities controls ins fits id

-- the channels of what isn't given
pub meaning_channels : (entities : List Entity) (controls : Controls) (ins : ℕ → List ℤ) (id : ℕ) → is_input (entity entities id).kind ≡ false
    → length (meaning entities controls ins id) ≡ (entity entities id).cluster.channels
unfolding meaning samples samples_by frame_of entity at index_of
meaning_channels [] controls ins id made = refl
meaning_channels (e ∷ es) controls ins id made =
    ap (λ (b : Bool). length (if b then ins id else frame_of controls id (entity (e ∷ es) id).kind (entity (e ∷ es) id).cluster.channels
    (map (samples (length es) (e ∷ es) controls ins) (signal_sources (entity (e ∷ es) id))))) made
    ∙ (length-map (range_with_len 0 (entity (e ∷ es) id).cluster.channels) _ ∙ length-range_with_len 0 (entity (e ∷ es) id).cluster.channels)
