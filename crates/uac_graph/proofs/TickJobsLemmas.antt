-- What an entity makes of its sources at one of several ticks, by its job.
use Rattle.std.proofs.Common.{◌≡◌, ◌∙◌, ap, sym, subst, ℕ, ℤ, List, Option, Some, None, length, map, eqb, if◌then◌else◌}
use Rattle.std.proofs.lemmas.List.{length-map}
use Rattle.uac_entities.specs.declared.entity.Entity.{Entity}
use Rattle.uac_units.specs.declared.jobs.Job.{Job}
use Rattle.uac_units.specs.declared.jobs.UnitKind.{UnitKind}
use Rattle.uac_units.specs.Rendering.{in_a_row, job_samples}
use Rattle.uac_graph.specs.GraphControls.{Controls}
use Rattle.uac_graph.specs.Jobs.{FitsFrames, HasJob}
use Rattle.uac_graph.specs.Meaning.{frame_of}
use Rattle.uac_graph.specs.Needs.{unit_of}
use Rattle.uac_graph.specs.TickRows.{RowSlots, slot_frames}
use Rattle.uac_graph.specs.Wiring.{frame_on, samples_on}
use Rattle.uac_graph.proofs.JobsMeaningLemmas.{passed_on, rendered_unit}
use Rattle.uac_graph.proofs.TickRowsLemmas.{frames_fit, row_count}

-- a unit renders what its entity makes of its sources' frames
pub made_by : (controls : Controls) (e : Entity) (u : UnitKind) (job : Job) (slots : RowSlots) (sources : List ℕ) (tick id : ℕ) (now : Option (List ℤ))
    → Some u ≡ unit_of e.kind → sources ≡ e.sources
    → HasJob controls e (length (in_a_row (map (samples_on (slot_frames 0 slots)) e.sources))) job
    → FitsFrames e.kind e.cluster.channels (map (samples_on (slot_frames 0 slots)) e.sources)
    → now ≡ (if eqb e.id id then Some (job_samples u job (in_a_row (map (samples_on (slot_frames tick slots)) sources))) else frame_on (slot_frames tick slots) id)
    → now ≡ (if eqb e.id id then Some (frame_of controls e.id e.kind e.cluster.channels (map (samples_on (slot_frames tick slots)) e.sources)) else frame_on (slot_frames tick slots) id)
made_by controls e u job slots sources tick id now unit same has fits is =
    let frames = map (samples_on (slot_frames tick slots)) e.sources in
    is
    ∙ ap (λ (xs : List ℤ). if eqb e.id id then Some xs else frame_on (slot_frames tick slots) id)
    (rendered_unit controls e u frames (in_a_row (map (samples_on (slot_frames tick slots)) sources)) job unit (length-map e.sources (samples_on (slot_frames tick slots)))
    (ap (λ (s : List ℕ). in_a_row (map (samples_on (slot_frames tick slots)) s)) same)
    (subst (λ (n : ℕ). HasJob controls e n job) (sym (row_count 0 tick slots e.sources)) has)
    (frames_fit e.kind e.cluster.channels 0 tick slots e.sources fits))

-- what is no unit passes its source's frame on
pub passed_by : (controls : Controls) (e : Entity) (slots : RowSlots) (sources : List ℕ) (tick id : ℕ) (now : Option (List ℤ))
    → unit_of e.kind ≡ None → sources ≡ e.sources
    → FitsFrames e.kind e.cluster.channels (map (samples_on (slot_frames 0 slots)) e.sources)
    → now ≡ (if eqb e.id id then Some (in_a_row (map (samples_on (slot_frames tick slots)) sources)) else frame_on (slot_frames tick slots) id)
    → now ≡ (if eqb e.id id then Some (frame_of controls e.id e.kind e.cluster.channels (map (samples_on (slot_frames tick slots)) e.sources)) else frame_on (slot_frames tick slots) id)
passed_by controls e slots sources tick id now none same fits is =
    let frames = map (samples_on (slot_frames tick slots)) e.sources in
    is
    ∙ ap (λ (xs : List ℤ). if eqb e.id id then Some xs else frame_on (slot_frames tick slots) id)
    (ap (λ (s : List ℕ). in_a_row (map (samples_on (slot_frames tick slots)) s)) same
    ∙ (passed_on controls e.id e.kind e.cluster.channels frames none (frames_fit e.kind e.cluster.channels 0 tick slots e.sources fits)).0)
