-- What a unit renders for its job is what its entity's meaning says.
use Rattle.std.proofs.Common.{◌≡◌, ◌∙◌, sym, ap, subst, arith, ℕ, suc, ◌+◌, ◌*◌, ◌/◌, ◌%◌, ◌<◌, ◌≤◌, Bool, eqb, if◌then◌else◌, ℤ, pos, List, [], ◌∷◌, Option, Some, None, length, get_or, map, sum, refl, ◌+ℤ◌, zero-add}
use Rattle.std.specs.List.{fold, range_with_len, All}
use Rattle.std.proofs.lemmas.List.FromFn.{length-map-range_with_len, get_or-map-range_with_len, get_or-range_with_len, length-range_with_len}
use Rattle.std.proofs.lemmas.Bool.{eq-eqb, ne_eqb}
use Rattle.std.proofs.lemmas.Bool.Decides.{nat_tests}
use Rattle.std.proofs.lemmas.List.{append-nil, ext_get_or, get_or-map, length-map}
use Rattle.std.proofs.lemmas.List.Sums.{sum_by-cons}
use Rattle.std.specs.Prelude.{negsuc}
use Rattle.uac_entities.specs.declared.entity.Entity.{Entity}
use Rattle.uac_entities.specs.declared.entity.EntityKind.{EntityKind}
use Rattle.uac_entities.specs.declared.entity.EntityKind.TheVariants as kind
use Rattle.uac_gain.specs.Gain.{scaled_sample, nearest_in_32_bits}
use Rattle.uac_units.specs.declared.jobs.Job.{Job}
use Rattle.uac_units.specs.declared.jobs.UnitKind.{UnitKind}
use Rattle.uac_units.specs.declared.jobs.UnitKind.TheVariants as unit
use Rattle.uac_units.specs.Rendering.{FitsKind, FitsNumbers, in_a_row, input, pins_sample, job_samples}
use Rattle.uac_units.proofs.RenderingLemmas.{selector-in_a_row, feature-in_a_row, effect-in_a_row}
use Rattle.uac_graph.specs.GraphControls.{Controls, chosen_pin, control_value, feature_gain, node_gain, pin_of}
use Rattle.uac_graph.specs.Jobs.{FitsFrames, HasJob, IsJob, gain_at, gain_count}
use Rattle.uac_graph.specs.Needs.{unit_of}
use Rattle.uac_graph.specs.Meaning.{frame_of, sample_of}
use Rattle.uac_graph.specs.Wiring.{Frames, frame_on}
use Rattle.uac_topology_rules.proofs.SignalsLemmas.{map_same}
use Rattle.uac_graph.proofs.RenderingLemmas.{length-in_a_row}

-- what gives the same of each number below n gives the same list
pub range_same : {X : Type 0} (f g : ℕ → X) (n : ℕ) → ((k : ℕ) → k < n → f k ≡ g k) → map f (range_with_len 0 n) ≡ map g (range_with_len 0 n)
range_same f g n same =
    map_same f g (range_with_len 0 n)
    (λ k below.
    let in_range : k < n = omega (arith, length-range_with_len 0 n) in
    let here : get_or (range_with_len 0 n) k 0 ≡ k = get_or-range_with_len 0 n k 0 in_range ∙ omega arith in
    ap f here ∙ same k in_range ∙ ap g (sym here))

-- a gain of the job
gain_of_job : (controls : Controls) (id : ℕ) (u : UnitKind) (channels count inputs number : ℕ) (job : Job) → IsJob controls id u channels count inputs job
    → number < gain_count u channels inputs → get_or job.gains.items number 0 ≡ gain_at controls id u number
gain_of_job controls id u channels count inputs number job is below =
    ap (λ gains. get_or gains number 0) is.gains ∙ get_or-map-range_with_len (gain_at controls id u) 0 (gain_count u channels inputs) number number 0 below (omega arith)

-- a node's number
node_below : (at channel inputs outputs : ℕ) → at < inputs → channel < outputs → at * outputs + channel < inputs * outputs
node_below at channel inputs outputs a c = grind arith

mixer_sample : (controls : Controls) (id channels : ℕ) (frames : List (List ℤ)) (job : Job)
    → IsJob controls id unit.Mixer channels (length frames) (length (in_a_row frames)) job → (channel : ℕ) → channel < channels
    → pins_sample unit.Mixer job (in_a_row frames) channel ≡ sample_of controls id kind.Mixer channels frames channel
mixer_sample controls id channels frames job is channel below =
    ap (λ (inputs : List ℤ). nearest_in_32_bits (fold (λ sum sample. sum +ℤ sample) (pos 0) inputs))
    (range_same
    (λ at. scaled_sample (input (in_a_row frames) at) (get_or job.gains.items (at * job.outputs + channel) 0))
    (λ at. scaled_sample (input (in_a_row frames) at) (node_gain controls id (at * channels + channel)))
    (length (in_a_row frames))
    (λ at inside.
    ap (λ (outputs : ℕ). scaled_sample (input (in_a_row frames) at) (get_or job.gains.items (at * outputs + channel) 0)) is.outputs
    ∙ ap (scaled_sample (input (in_a_row frames) at))
    (gain_of_job controls id unit.Mixer channels (length frames) (length (in_a_row frames)) (at * channels + channel) job is
    (node_below at channel (length (in_a_row frames)) channels inside below))))

-- a chosen pin is there
chosen-below : (controls : Controls) (id pins : ℕ) → 0 < pins → chosen_pin controls id pins < pins
chosen-below controls id pins some = by_value (control_value controls id 1 0) pins some
  where
    by_value : (value : ℤ) (pins : ℕ) → 0 < pins → pin_of value pins < pins
    by_value (pos n) pins some = grind (arith, nat_tests)
    by_value (negsuc n) pins some = omega arith

-- frames that all have so many channels, by their lengths
of_lengths : (frames : List (List ℤ)) (channels : ℕ) → All (λ p. p ≡ channels) (map length frames) → All (λ frame. length frame ≡ channels) frames
of_lengths frames channels each k d below =
    sym (get_or-map length frames k d 0 below) ∙ each k 0 (omega (arith, length-map frames (length {A = ℤ})))

selector_sample : (controls : Controls) (id channels : ℕ) (frames : List (List ℤ)) (job : Job)
    → IsJob controls id unit.Selector channels (length frames) (length (in_a_row frames)) job → FitsFrames kind.Selector channels frames
    → (channel : ℕ) → channel < channels
    → pins_sample unit.Selector job (in_a_row frames) channel ≡ sample_of controls id kind.Selector channels frames channel
selector_sample controls id channels frames job is fits channel below =
    let some : 0 < length frames = omega (arith, fits.pins.1, length-map frames (length {A = ℤ})) in
    let each : All (λ frame. length frame ≡ job.outputs) frames = λ k d inside. of_lengths frames channels fits.pins.2 k d inside ∙ sym is.outputs in
    selector-in_a_row job frames channel each (omega (arith, is.pin, chosen-below controls id (length frames) some)) (omega (arith, is.outputs))
    ∙ ap (λ (p : ℕ). input (get_or frames p []) channel) is.pin

-- the one frame that a unit of one source takes
one_frame : (frames : List (List ℤ)) (channels : ℕ) → map length frames ≡ channels ∷ [] → length (get_or frames 0 []) ≡ channels
one_frame [] channels e = absurd (cc)
one_frame (frame ∷ frames) channels e = cc

-- its channels in a row
pub one_row : (frames : List (List ℤ)) (channels : ℕ) → map length frames ≡ channels ∷ [] → length (in_a_row frames) ≡ channels
one_row frames channels e = length-in_a_row frames ∙ ap sum e ∙ zero-add channels

feature_sample : (controls : Controls) (id channels : ℕ) (frames : List (List ℤ)) (job : Job)
    → IsJob controls id unit.Feature channels (length frames) (length (in_a_row frames)) job → FitsFrames kind.Feature channels frames
    → (channel : ℕ) → channel < channels
    → pins_sample unit.Feature job (in_a_row frames) channel ≡ sample_of controls id kind.Feature channels frames channel
feature_sample controls id channels frames job is fits channel below =
    let sample = input (get_or frames 0 []) channel in
    let own : get_or job.gains.items (2 * channel) 0 ≡ feature_gain controls id (channel + 1) =
    gain_of_job controls id unit.Feature channels (length frames) (length (in_a_row frames)) (2 * channel) job is (omega arith)
    ∙ ap (feature_gain controls id) (even channel) in
    let master : get_or job.gains.items (2 * channel + 1) 0 ≡ feature_gain controls id 0 =
    gain_of_job controls id unit.Feature channels (length frames) (length (in_a_row frames)) (2 * channel + 1) job is (omega arith)
    ∙ ap (feature_gain controls id) (odd channel) in
    feature-in_a_row job frames channel (omega (arith, one_frame frames channels fits.pins))
    ∙ ap (λ (g : ℕ). scaled_sample (scaled_sample sample g) (get_or job.gains.items (2 * channel + 1) 0)) own
    ∙ ap (λ (g : ℕ). scaled_sample (scaled_sample sample (feature_gain controls id (channel + 1))) g) master
  where
    even : (n : ℕ) → (if eqb (2 * n % 2) 0 then 2 * n / 2 + 1 else 0) ≡ n + 1
    even n = ap (λ (b : Bool). if b then 2 * n / 2 + 1 else 0) (eq-eqb (2 * n % 2) 0 (omega arith)) ∙ omega arith

    odd : (n : ℕ) → (if eqb ((2 * n + 1) % 2) 0 then (2 * n + 1) / 2 + 1 else 0) ≡ 0
    odd n = ap (λ (b : Bool). if b then (2 * n + 1) / 2 + 1 else 0) (ne_eqb ((2 * n + 1) % 2) 0 (λ e. omega arith))

effect_sample : (controls : Controls) (id channels : ℕ) (frames : List (List ℤ)) (job : Job) → FitsFrames kind.Effect channels frames
    → (channel : ℕ) → channel < channels
    → pins_sample unit.Effect job (in_a_row frames) channel ≡ sample_of controls id kind.Effect channels frames channel
effect_sample controls id channels frames job fits channel below =
    effect-in_a_row job frames channel (omega (arith, one_frame frames channels fits.pins))

-- the samples of an entity's unit
same_frame : (controls : Controls) (id : ℕ) (k : EntityKind) (u : UnitKind) (channels : ℕ) (frames : List (List ℤ)) (job : Job) → job.outputs ≡ channels
    → ((channel : ℕ) → channel < channels → pins_sample u job (in_a_row frames) channel ≡ sample_of controls id k channels frames channel)
    → job_samples u job (in_a_row frames) ≡ frame_of controls id k channels frames
unfolding job_samples frame_of
same_frame controls id k u channels frames job outputs same =
    ap (λ (n : ℕ). map (pins_sample u job (in_a_row frames)) (range_with_len 0 n)) outputs
    ∙ range_same (pins_sample u job (in_a_row frames)) (sample_of controls id k channels frames) channels same

pub rendered_is : (controls : Controls) (id : ℕ) (k : EntityKind) (u : UnitKind) (channels : ℕ) (frames : List (List ℤ)) (job : Job) → unit_of k ≡ Some u
    → IsJob controls id u channels (length frames) (length (in_a_row frames)) job → FitsFrames k channels frames
    → job_samples u job (in_a_row frames) ≡ frame_of controls id k channels frames
rendered_is controls id kind.Mixer unit.Mixer channels frames job e is fits =
    same_frame controls id kind.Mixer unit.Mixer channels frames job is.outputs (mixer_sample controls id channels frames job is)
rendered_is controls id kind.Selector unit.Selector channels frames job e is fits =
    same_frame controls id kind.Selector unit.Selector channels frames job is.outputs (selector_sample controls id channels frames job is fits)
rendered_is controls id kind.Feature unit.Feature channels frames job e is fits =
    same_frame controls id kind.Feature unit.Feature channels frames job is.outputs (feature_sample controls id channels frames job is fits)
rendered_is controls id kind.Effect unit.Effect channels frames job e is fits =
    same_frame controls id kind.Effect unit.Effect channels frames job is.outputs (effect_sample controls id channels frames job fits)
rendered_is controls id _ _ channels frames job e is fits = absurd (cc)

-- pins of so many channels each
sum_same : (channels : ℕ) (pins : List ℕ) → All (λ p. p ≡ channels) pins → sum pins ≡ length pins * channels
sum_same channels [] each = omega arith
sum_same channels (p ∷ pins) each =
    let first : p ≡ channels = each 0 0 (omega arith) in
    let others : sum pins ≡ length pins * channels = sum_same channels pins (λ k d below. each (suc k) d (omega arith)) in
    let all : sum (p ∷ pins) ≡ p + sum pins = sum_by-cons (λ (x : ℕ). x) p pins in
    omega (arith, all, others, first)

-- pins that have so many channels together, at least one each, are no more
pub few_pins : (channels : ℕ) (pins : List ℕ) → 1 ≤ channels → All (λ p. p ≡ channels) pins → length pins ≤ sum pins
few_pins channels pins some each = let e = sum_same channels pins each in grind arith

numbers : (controls : Controls) (id : ℕ) (k : EntityKind) (u : UnitKind) (channels : ℕ) (frames : List (List ℤ)) (job : Job) → unit_of k ≡ Some u
    → IsJob controls id u channels (length frames) (length (in_a_row frames)) job → FitsFrames k channels frames
    → FitsNumbers u job.outputs job.pin (length job.gains.items) (length (in_a_row frames))
numbers controls id kind.Mixer unit.Mixer channels frames job e is fits =
    ap length is.gains ∙ length-map-range_with_len (gain_at controls id unit.Mixer) 0 (length (in_a_row frames) * channels)
    ∙ ap (λ n. length (in_a_row frames) * n) (sym is.outputs)
numbers controls id kind.Selector unit.Selector channels frames job e is fits =
    let any : 0 < length frames = omega (arith, fits.pins.1, length-map frames (length {A = ℤ})) in
    let pin : job.pin < length frames = omega (arith, is.pin, chosen-below controls id (length frames) any) in
    let inputs : length (in_a_row frames) ≡ length frames * channels =
    length-in_a_row frames ∙ sum_same channels (map length frames) fits.pins.2 ∙ ap (λ n. n * channels) (length-map frames (length {A = ℤ})) in
    within job.pin (length frames) channels job.outputs (length (in_a_row frames)) pin is.outputs inputs
  where
    within : (pin pins channels outputs inputs : ℕ) → pin < pins → outputs ≡ channels → inputs ≡ pins * channels → (pin + 1) * outputs ≤ inputs
    within pin pins channels outputs inputs below o i = grind arith
numbers controls id kind.Feature unit.Feature channels frames job e is fits = (
  one_row frames channels fits.pins ∙ sym is.outputs,
  ap length is.gains ∙ length-map-range_with_len (gain_at controls id unit.Feature) 0 (2 * channels) ∙ ap (λ n. 2 * n) (sym is.outputs),
)
numbers controls id kind.Effect unit.Effect channels frames job e is fits = one_row frames channels fits.pins ∙ sym is.outputs
numbers controls id _ _ channels frames job e is fits = absurd (cc)

-- the job fits its unit
pub fits_kind : (controls : Controls) (id : ℕ) (k : EntityKind) (u : UnitKind) (channels : ℕ) (frames : List (List ℤ)) (job : Job) → unit_of k ≡ Some u
    → IsJob controls id u channels (length frames) (length (in_a_row frames)) job → FitsFrames k channels frames
    → FitsKind u job (in_a_row frames)
fits_kind controls id k u channels frames job e is fits = record {
  some = omega (arith, is.outputs, fits.some);
  most = omega (arith, is.outputs, fits.most);
  numbers = numbers controls id k u channels frames job e is fits;
}

-- the inputs of a unit or an output terminal are at most 256
pub row_small : (k : EntityKind) (channels : ℕ) (frames : List (List ℤ)) → FitsFrames k channels frames → length (in_a_row frames) ≤ 256
row_small kind.Mixer channels frames fits = omega (arith, length-in_a_row frames, fits.pins.0)
row_small kind.Selector channels frames fits = omega (arith, length-in_a_row frames, fits.pins.0)
row_small kind.Feature channels frames fits = omega (arith, one_row frames channels fits.pins, fits.most)
row_small kind.Effect channels frames fits = omega (arith, one_row frames channels fits.pins, fits.most)
row_small kind.OutputTerminal channels frames fits = omega (arith, one_row frames channels fits.pins, fits.most)
row_small _ channels frames fits = let no = fits.signal in absurd (cc)

-- the samples of a frame, one by one
read_frame : (frame : List ℤ) (channels : ℕ) → length frame ≡ channels → map (λ channel. input frame channel) (range_with_len 0 channels) ≡ frame
read_frame frame channels e =
    let long : length (map (λ channel. input frame channel) (range_with_len 0 channels)) ≡ channels = length-map-range_with_len (λ channel. input frame channel) 0 channels in
    ext_get_or (pos 0) (map (λ channel. input frame channel) (range_with_len 0 channels)) frame (long ∙ sym e)
    (λ k below. get_or-map-range_with_len (λ channel. input frame channel) 0 channels k k (pos 0) (omega (arith, long)) (omega arith))

only_row : (frames : List (List ℤ)) (channels : ℕ) → map length frames ≡ channels ∷ [] → in_a_row frames ≡ get_or frames 0 []
only_row [] channels e = absurd (cc)
only_row (frame ∷ []) channels e = append-nil frame
only_row (frame ∷ other ∷ frames) channels e = absurd (cc)

-- an output terminal passes its source's frame on
pub passed_on : (controls : Controls) (id : ℕ) (k : EntityKind) (channels : ℕ) (frames : List (List ℤ)) → unit_of k ≡ None → FitsFrames k channels frames
    → (in_a_row frames ≡ frame_of controls id k channels frames) × (length (in_a_row frames) ≤ 32)
unfolding frame_of
passed_on controls id kind.OutputTerminal channels frames e fits = (
  only_row frames channels fits.pins ∙ sym (read_frame (get_or frames 0 []) channels (one_frame frames channels fits.pins)),
  omega (arith, one_row frames channels fits.pins, fits.most),
)
passed_on controls id kind.Mixer channels frames e fits = absurd (cc)
passed_on controls id kind.Selector channels frames e fits = absurd (cc)
passed_on controls id kind.Feature channels frames e fits = absurd (cc)
passed_on controls id kind.Effect channels frames e fits = absurd (cc)
passed_on controls id _ channels frames e fits = let no = fits.signal in absurd (cc)

-- a job by equal counts
pub job_by : (controls : Controls) (id : ℕ) (u : UnitKind) (channels count pins inputs row : ℕ) (job : Job) → count ≡ pins → inputs ≡ row
    → IsJob controls id u channels count inputs job → IsJob controls id u channels pins row job
job_by controls id u channels count pins inputs row job p r is =
    subst (λ (n : ℕ). IsJob controls id u channels pins n job) r (subst (λ (n : ℕ). IsJob controls id u channels n inputs job) p is)

-- the unit that renders an entity can take its job over these pins
pub fits_unit : (controls : Controls) (e : Entity) (u : UnitKind) (frames : List (List ℤ)) (pins : List ℤ) (job : Job)
    → Some u ≡ unit_of e.kind → length frames ≡ length e.sources → pins ≡ in_a_row frames → HasJob controls e (length (in_a_row frames)) job
    → FitsFrames e.kind e.cluster.channels frames → FitsKind u job pins
fits_unit controls e u frames pins job is count row has fits =
    subst (λ (xs : List ℤ). FitsKind u job xs) (sym row)
    (fits_kind controls e.id e.kind u e.cluster.channels frames job (sym is)
    (job_by controls e.id u e.cluster.channels (length e.sources) (length frames) (length (in_a_row frames)) (length (in_a_row frames)) job (sym count) refl (has u (sym is)))
    fits)

-- what it makes of them is the entity's frame
pub rendered_unit : (controls : Controls) (e : Entity) (u : UnitKind) (frames : List (List ℤ)) (pins : List ℤ) (job : Job)
    → Some u ≡ unit_of e.kind → length frames ≡ length e.sources → pins ≡ in_a_row frames → HasJob controls e (length (in_a_row frames)) job
    → FitsFrames e.kind e.cluster.channels frames → job_samples u job pins ≡ frame_of controls e.id e.kind e.cluster.channels frames
rendered_unit controls e u frames pins job is count row has fits =
    ap (job_samples u job) row
    ∙ rendered_is controls e.id e.kind u e.cluster.channels frames job (sym is)
    (job_by controls e.id u e.cluster.channels (length e.sources) (length frames) (length (in_a_row frames)) (length (in_a_row frames)) job (sym count) refl (has u (sym is)))
    fits

-- a wire that gets these samples, by other names
pub wire_by : (frames old : Frames) (own id : ℕ) (new : Option (List ℤ)) (samples given : List ℤ) → frames ≡ old → samples ≡ given
    → new ≡ (if eqb own id then Some samples else frame_on frames id) → new ≡ (if eqb own id then Some given else frame_on old id)
wire_by frames old own id new samples given same is e =
    e ∙ ap (λ (xs : List ℤ). if eqb own id then Some xs else frame_on frames id) is
    ∙ ap (λ (w : Frames). if eqb own id then Some given else frame_on w id) same
