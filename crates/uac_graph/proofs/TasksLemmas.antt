-- What is done at an index of an order gives its entity's wire what the entity makes of its sources.
use Rattle.std.proofs.Common.{◌≡◌, ◌∙◌, sym, ap, subst, refl, arith, ℕ, ◌+◌, ◌<◌, ◌≤◌, true, false, eqb, if◌then◌else◌, ℤ, List, [], ◌∷◌, Option, Some, None, length, get_or, map, sum}
use Rattle.std.specs.Option.{option_map}
use Rattle.std.proofs.lemmas.List.{length-map}
use Rattle.uac_entities.specs.declared.entity.Entity.{Entity}
use Rattle.uac_entities.specs.declared.entity.EntityKind.{EntityKind}
use Rattle.uac_entities.specs.declared.entity.EntityKind.TheVariants as kind
use Rattle.uac_topology_rules.specs.Clusters.{is_input}
use Rattle.uac_topology_rules.specs.Links.{is_clock}
use Rattle.uac_topology_rules.specs.Table.{at}
use Rattle.uac_store.specs.StoreControls.{pins_of}
use Rattle.uac_units.specs.declared.jobs.Job.{Job}
use Rattle.uac_units.specs.declared.jobs.UnitKind.{UnitKind}
use Rattle.uac_units.specs.Rendering.{FitsKind, in_a_row, job_samples}
use Rattle.uac_graph.specs.GraphControls.{Controls}
use Rattle.uac_graph.specs.Fitness.{IsSignalGraph}
use Rattle.uac_graph.specs.Jobs.{AreJobs, HasJob}
use Rattle.uac_graph.specs.Meaning.{frame_of}
use Rattle.uac_graph.specs.Needs.{unit_count, unit_of}
use Rattle.uac_graph.specs.Tasks.{work_by, work_of}
use Rattle.uac_graph.specs.Wiring.{AreWiresOf, Frames, frame_on, samples_on}
use Rattle.uac_graph.specs.declared.tasks.Work.TheVariants.{Pass, Render, Ask}
use Rattle.uac_graph.proofs.WiringOrderLemmas.{fits_at, job_at, wire_at}
use Rattle.uac_graph.proofs.MeaningReachLemmas.{length-frame_of}
use Rattle.uac_graph.proofs.JobsMeaningLemmas.{fits_unit, passed_on, rendered_unit, row_small}
use Rattle.uac_graph.proofs.RenderingLemmas.{in_a_row-one}

-- ---- what an entity is for which something is done

-- the only item of a list
only_item : (xs : List ℕ) → length xs ≡ 1 → xs ≡ get_or xs 0 0 ∷ []
only_item [] e = absurd (omega (arith, e))
only_item (x ∷ []) e = refl
only_item (x ∷ y ∷ xs) e = absurd (omega (arith, e))

-- an entity with no or several sources
work_by_many : (id : ℕ) (unit : Option UnitKind) (sources : List ℕ) → (length sources ≡ 1 → ⊥) → work_by id unit sources ≡ Ask
work_by_many id unit [] many = refl
work_by_many id unit (source ∷ []) many = absurd (many refl)
work_by_many id unit (source ∷ other ∷ sources) many = refl

pub works_many : (e : Entity) → (length e.sources ≡ 1 → ⊥) → work_of e ≡ Ask
unfolding work_of
works_many e many = work_by_many e.id (unit_of e.kind) e.sources many

pub works_one : (e : Entity) (sources : List ℕ) → sources ≡ e.sources → length sources ≡ 1
    → work_of e ≡ work_by e.id (unit_of e.kind) (get_or sources 0 0 ∷ [])
unfolding work_of
works_one e sources same one = ap (work_by e.id (unit_of e.kind)) (sym same ∙ only_item sources one)

-- an entity that passes on: its one source, and its own id
pub record Passes (e : Entity) (source own : ℕ) : Type 0 where
  pub signal : is_input e.kind ≡ false
  pub unit : unit_of e.kind ≡ None
  pub one : e.sources ≡ source ∷ []
  pub named : own ≡ e.id

pub passes_is : (e : Entity) (source own : ℕ) → is_input e.kind ≡ false → work_of e ≡ Pass source own → Passes e source own
unfolding work_of
passes_is e source own other is =
    let parts = by (unit_of e.kind) e.sources is in
    record { signal = other; unit = parts.0; one = parts.1; named = parts.2 }
  where
    by : (unit : Option UnitKind) (sources : List ℕ)
        → work_by e.id unit sources ≡ Pass source own
        → (unit ≡ None) × (sources ≡ source ∷ []) × (own ≡ e.id)
    by unit [] is = absurd (cc)
    by (Some u) (s ∷ []) is = absurd (cc)
    by None (s ∷ []) is = (refl, (let same : s ≡ source = cc in ap (λ (n : ℕ). n ∷ []) same), (let same : own ≡ e.id = cc in same))
    by unit (s ∷ t ∷ sources) is = absurd (cc)

-- a unit that is rendered over its one source
pub record Renders (e : Entity) (u : UnitKind) (source own : ℕ) : Type 0 where
  pub signal : is_input e.kind ≡ false
  pub unit : unit_of e.kind ≡ Some u
  pub one : e.sources ≡ source ∷ []
  pub named : own ≡ e.id

pub renders_is : (e : Entity) (u : UnitKind) (source own : ℕ) → is_input e.kind ≡ false → work_of e ≡ Render u source own → Renders e u source own
unfolding work_of
renders_is e u source own other is =
    let parts = by (unit_of e.kind) e.sources is in
    record { signal = other; unit = parts.0; one = parts.1; named = parts.2 }
  where
    by : (unit : Option UnitKind) (sources : List ℕ)
        → work_by e.id unit sources ≡ Render u source own
        → (unit ≡ Some u) × (sources ≡ source ∷ []) × (own ≡ e.id)
    by unit [] is = absurd (cc)
    by None (s ∷ []) is = absurd (cc)
    by (Some v) (s ∷ []) is = (
      (let same : v ≡ u = cc in ap Some same),
      (let same : s ≡ source = cc in ap (λ (m : ℕ). m ∷ []) same),
      (let same : own ≡ e.id = cc in same),
    )
    by unit (s ∷ t ∷ sources) is = absurd (cc)

-- ---- what counts

-- an input terminal is no unit
pub input_uncounted : (k : EntityKind) (n : ℕ) → is_input k ≡ true → n ≡ n + unit_count k
input_uncounted kind.InputTerminal n e = omega arith
input_uncounted _ n e = absurd (cc)

-- nor is what has no unit
pub other_uncounted : (k : EntityKind) (n : ℕ) → unit_of k ≡ None → n ≡ n + unit_count k
other_uncounted kind.Mixer n e = absurd (cc)
other_uncounted kind.Selector n e = absurd (cc)
other_uncounted kind.Feature n e = absurd (cc)
other_uncounted kind.Effect n e = absurd (cc)
other_uncounted _ n e = omega arith

-- what has one counts once
pub unit_counted : (k : EntityKind) (u : UnitKind) → unit_of k ≡ Some u → unit_count k ≡ 1
unit_counted kind.Mixer u e = refl
unit_counted kind.Selector u e = refl
unit_counted kind.Feature u e = refl
unit_counted kind.Effect u e = refl
unit_counted _ u e = absurd (cc)

-- the job at an index
pub job_of : (entities : List Entity) (controls : Controls) (jobs : List Job) (job : Job) (index : ℕ) → AreJobs entities controls jobs → index < length entities
    → ((d : Job) → job ≡ get_or jobs index d) → HasJob controls (at entities index) (sum (pins_of entities (at entities index))) job
job_of entities controls jobs job index are inside here =
    subst (HasJob controls (at entities index) (sum (pins_of entities (at entities index)))) (sym (here job)) (are.each index job inside)

-- ---- what the wires get

-- the frame of one source in a row
row_of_one : (frames : Frames) (sources : List ℕ) (source : ℕ) → sources ≡ source ∷ [] → samples_on frames source ≡ in_a_row (map (samples_on frames) sources)
row_of_one frames sources source one = sym (ap (λ ss. in_a_row (map (samples_on frames) ss)) one ∙ in_a_row-one (samples_on frames source))

-- a wire that gets these samples, by another id
wire_named : (frames new : Frames) (own id : ℕ) (samples given : List ℤ) (k : ℕ) → own ≡ id → samples ≡ given
    → frame_on new k ≡ (if eqb own k then Some samples else frame_on frames k) → frame_on new k ≡ (if eqb id k then Some given else frame_on frames k)
wire_named frames new own id samples given k named is set =
    set ∙ ap (λ (xs : List ℤ). if eqb own k then Some xs else frame_on frames k) is ∙ ap (λ (n : ℕ). if eqb n k then Some given else frame_on frames k) named

-- a wire that gets what a unit renders, by its kind
pub by_kind : (frames : Frames) (own k : ℕ) (u kind : UnitKind) (job : Job) (pins : List ℤ) → u ≡ kind
    → (if eqb own k then Some (job_samples u job pins) else frame_on frames k) ≡ (if eqb own k then Some (job_samples kind job pins) else frame_on frames k)
by_kind frames own k u kind job pins same = ap (λ (v : UnitKind). if eqb own k then Some (job_samples v job pins) else frame_on frames k) same

module _ (entities : List Entity) (frames : Frames) (index : ℕ) (sound : IsSignalGraph entities) (fitting : AreWiresOf entities frames)
    (inside : index < length entities) (signal : is_clock (at entities index).kind ≡ false) where
  -- what an entity that passes on gets
  passed_frame : (controls : Controls) (source own : ℕ) → Passes (at entities index) source own
      → samples_on frames source
      ≡ frame_of controls (at entities index).id (at entities index).kind (at entities index).cluster.channels (map (samples_on frames) (at entities index).sources)
  passed_frame controls source own passes =
      let e = at entities index in
      row_of_one frames e.sources source passes.one
      ∙ (passed_on controls e.id e.kind e.cluster.channels (map (samples_on frames) e.sources) passes.unit
      (fits_at entities frames index e sound fitting inside signal refl passes.signal)).0

  pub passed_there : (controls : Controls) (source own : ℕ) → Passes (at entities index) source own
      → option_map length (frame_on frames own) ≡ Some (length (samples_on frames source))
  passed_there controls source own passes =
      let e = at entities index in
      ap (λ (n : ℕ). option_map length (frame_on frames n)) passes.named
      ∙ wire_at entities frames index e sound fitting inside signal refl
      ∙ ap Some (sym (
      ap length (passed_frame controls source own passes) ∙ length-frame_of controls e.id e.kind e.cluster.channels (map (samples_on frames) e.sources)))

  pub passed_set : (controls : Controls) (source own : ℕ) (new : Frames) → Passes (at entities index) source own
      → ((k : ℕ) → frame_on new k ≡ (if eqb own k then Some (samples_on frames source) else frame_on frames k))
      → (k : ℕ) → frame_on new k
      ≡ (if eqb (at entities index).id k
      then Some (frame_of controls (at entities index).id (at entities index).kind (at entities index).cluster.channels
      (map (samples_on frames) (at entities index).sources))
      else frame_on frames k)
  passed_set controls source own new passes set k =
      wire_named frames new own (at entities index).id (samples_on frames source) _ k passes.named (passed_frame controls source own passes) (set k)

  -- a unit's job over the frame of its one source
  pub renders_few : (u : UnitKind) (source own : ℕ) → Renders (at entities index) u source own → length (samples_on frames source) ≤ 256
  renders_few u source own renders =
      let e = at entities index in
      let row = ap length (row_of_one frames e.sources source renders.one) in
      let small = row_small e.kind e.cluster.channels (map (samples_on frames) e.sources) (fits_at entities frames index e sound fitting inside signal refl renders.signal) in
      omega (arith, row, small)

  pub renders_fits : (controls : Controls) (u : UnitKind) (source own : ℕ) (job : Job) → Renders (at entities index) u source own
      → HasJob controls (at entities index) (sum (pins_of entities (at entities index))) job → FitsKind u job (samples_on frames source)
  renders_fits controls u source own job renders has =
      let e = at entities index in
      fits_unit controls e u (map (samples_on frames) e.sources) (samples_on frames source) job (sym renders.unit)
      (length-map e.sources (samples_on frames)) (row_of_one frames e.sources source renders.one)
      (job_at entities controls frames index e job sound fitting inside signal refl has)
      (fits_at entities frames index e sound fitting inside signal refl renders.signal)

  pub renders_there : (controls : Controls) (u : UnitKind) (source own : ℕ) (job : Job) → Renders (at entities index) u source own
      → HasJob controls (at entities index) (sum (pins_of entities (at entities index))) job
      → option_map length (frame_on frames own) ≡ Some job.outputs
  renders_there controls u source own job renders has =
      let e = at entities index in
      ap (λ (n : ℕ). option_map length (frame_on frames n)) renders.named
      ∙ wire_at entities frames index e sound fitting inside signal refl
      ∙ ap Some (sym (has u renders.unit).outputs)

  pub renders_set : (controls : Controls) (u : UnitKind) (source own : ℕ) (job : Job) (new : Frames) → Renders (at entities index) u source own
      → HasJob controls (at entities index) (sum (pins_of entities (at entities index))) job
      → ((k : ℕ) → frame_on new k ≡ (if eqb own k then Some (job_samples u job (samples_on frames source)) else frame_on frames k))
      → (k : ℕ) → frame_on new k
      ≡ (if eqb (at entities index).id k
      then Some (frame_of controls (at entities index).id (at entities index).kind (at entities index).cluster.channels
      (map (samples_on frames) (at entities index).sources))
      else frame_on frames k)
  renders_set controls u source own job new renders has set k =
      let e = at entities index in
      wire_named frames new own e.id (job_samples u job (samples_on frames source)) _ k renders.named
      (rendered_unit controls e u (map (samples_on frames) e.sources) (samples_on frames source) job (sym renders.unit)
      (length-map e.sources (samples_on frames)) (row_of_one frames e.sources source renders.one)
      (job_at entities controls frames index e job sound fitting inside signal refl has)
      (fits_at entities frames index e sound fitting inside signal refl renders.signal))
      (set k)
