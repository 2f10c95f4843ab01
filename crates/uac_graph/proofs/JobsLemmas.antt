-- What units are asked, from the table of their entities.
use Rattle.std.proofs.Common.{◌≡◌, ◌∙◌, sym, ap, subst, arith, ℕ, ◌+◌, ◌<◌, ◌≤◌, false, if◌then◌else◌, not, ℤ, pos, List, [], ◌∷◌, ◌++◌, Some, None, length, get_or, set, sum, inl, inr, refl, unwrap_or, eqb, ◌/◌, ◌%◌}
use Rattle.std.specs.Ordering.{int_eq}
use Rattle.std.proofs.lemmas.Bool.{cases_eq, cases_lt}
use Rattle.std.proofs.lemmas.List.{get_or_push, get_or_append_left, get_or-set_same, get_or-set_other, length-map, length-set}
use Rattle.std.proofs.lemmas.List.{length_push}
use Rattle.uac_entities.specs.declared.entity.Entity.{Entity}
use Rattle.uac_entities.specs.declared.entity.EntityKind.{EntityKind}
use Rattle.uac_entities.specs.declared.entity.EntityKind.TheVariants as kind
use Rattle.uac_topology_rules.specs.Links.{is_clock}
use Rattle.uac_topology_rules.specs.Table.{at, index_of}
use Rattle.uac_store.specs.StoreControls.{pins_of}
use Rattle.uac_gain.specs.Gain.{gain_of, unity}
use Rattle.uac_units.specs.declared.jobs.Job.{Job}
use Rattle.uac_units.specs.declared.jobs.UnitKind.{UnitKind}
use Rattle.uac_units.specs.declared.jobs.UnitKind.TheVariants as unit
use Rattle.uac_graph.specs.GraphControls.{Controls, control_value, feature_gain, pin_of, volume_gain}
use Rattle.uac_graph.specs.Fitness.{FitsPins, IsSignalGraph}
use Rattle.uac_graph.specs.Jobs.{AreFirstJobs, AreJobs, AreSameBut, HasJob, IsAskable, IsJob, gain_at, gain_count, pin_at}
use Rattle.uac_graph.specs.Needs.{unit_of}
use Rattle.uac_graph.proofs.JobsMeaningLemmas.{few_pins, range_same}

-- ---- one job

-- an entity of the table
pub askable : (entities : List Entity) (index : ℕ) (e : Entity) → IsSignalGraph entities → index < length entities → e ≡ at entities index → IsAskable entities e
askable entities index e sound inside here =
    subst (IsAskable entities) (sym here) (record { some = sound.some index inside; most = sound.most index inside; fits = sound.fits index inside })

pins_few : (k : EntityKind) (u : UnitKind) (channels : ℕ) (pins : List ℕ) → unit_of k ≡ Some u → (is_clock k ≡ false → channels ≤ 32) → FitsPins k channels pins → sum pins ≤ 256
pins_few kind.Mixer u channels pins e most fits = fits.0
pins_few kind.Selector u channels pins e most fits = fits.0
pins_few kind.Feature u channels pins e most fits = rw fits (let m = most refl in omega arith)
pins_few kind.Effect u channels pins e most fits = rw fits (let m = most refl in omega arith)
pins_few _ u channels pins e most fits = absurd (cc)

-- the inputs of a unit are at most 256
pub inputs_few : (entities : List Entity) (e : Entity) (u : UnitKind) → unit_of e.kind ≡ Some u → IsAskable entities e → sum (pins_of entities e) ≤ 256
inputs_few entities e u is askable = pins_few e.kind u e.cluster.channels (pins_of entities e) is askable.most askable.fits

gains_by : (k : EntityKind) (u : UnitKind) (channels : ℕ) (pins : List ℕ) → unit_of k ≡ Some u → (is_clock k ≡ false → channels ≤ 32) → FitsPins k channels pins
    → gain_count u channels (sum pins) ≤ 256
gains_by kind.Mixer unit.Mixer channels pins e most fits = fits.1
gains_by kind.Selector unit.Selector channels pins e most fits = omega arith
gains_by kind.Feature unit.Feature channels pins e most fits = let m = most refl in omega arith
gains_by kind.Effect unit.Effect channels pins e most fits = omega arith
gains_by _ _ channels pins e most fits = absurd (cc)

-- its gains are at most 256
pub gains_few : (entities : List Entity) (e : Entity) (u : UnitKind) → unit_of e.kind ≡ Some u → IsAskable entities e
    → gain_count u e.cluster.channels (sum (pins_of entities e)) ≤ 256
gains_few entities e u is askable = gains_by e.kind u e.cluster.channels (pins_of entities e) is askable.most askable.fits

selector_by : (k : EntityKind) (u : UnitKind) (channels : ℕ) (pins : List ℕ) → unit_of k ≡ Some u → u ≡ unit.Selector → (is_clock k ≡ false → 1 ≤ channels) → FitsPins k channels pins
    → length pins ≤ 256
selector_by kind.Selector unit.Selector channels pins e chosen some fits = omega (arith, few_pins channels pins (some refl) fits.2, fits.0)
selector_by kind.Mixer _ channels pins e chosen some fits = absurd (cc)
selector_by _ _ channels pins e chosen some fits = absurd (cc)

-- a selector's pins are at most 256
pub sources_few : (entities : List Entity) (e : Entity) (u : UnitKind) → unit_of e.kind ≡ Some u → IsAskable entities e → u ≡ unit.Selector
    → length e.sources ≤ 256
unfolding pins_of
sources_few entities e u is askable chosen =
    omega (arith, selector_by e.kind u e.cluster.channels (pins_of entities e) is chosen askable.some askable.fits, length-map e.sources (Rattle.uac_entities.specs.EntityInterfaces.channels_of entities))

-- what it is asked is its job
pub is_asked : (controls : Controls) (e : Entity) (u : UnitKind) (inputs row : ℕ) (job : Job) → unit_of e.kind ≡ Some u → inputs ≡ row
    → IsJob controls e.id u e.cluster.channels (length e.sources) inputs job → HasJob controls e row job
is_asked controls e u inputs row job is same asked v other =
    let own : u ≡ v = one_kind (unit_of e.kind) u v is other in
    subst (λ (w : UnitKind). IsJob controls e.id w e.cluster.channels (length e.sources) row job) own
    (subst (λ (n : ℕ). IsJob controls e.id u e.cluster.channels (length e.sources) n job) same asked)
  where
    one_kind : (o : Rattle.std.specs.Prelude.Option UnitKind) (u v : UnitKind) → o ≡ Some u → o ≡ Some v → u ≡ v
    one_kind None u v e f = absurd (cc)
    one_kind (Some w) u v e f = cc

-- the job of the entity that a table has at an index
pub asked_at : (entities table : List Entity) (controls : Controls) (index : ℕ) (e : Entity) (job : Job) → table ≡ entities → e ≡ at table index
    → HasJob controls e (sum (pins_of table e)) job → HasJob controls (at entities index) (sum (pins_of entities (at entities index))) job
asked_at entities table controls index e job same here has =
    let own = here ∙ ap (λ (es : List Entity). at es index) same in
    subst (λ (f : Entity). HasJob controls f (sum (pins_of entities f)) job) own (subst (λ (es : List Entity). HasJob controls e (sum (pins_of es e)) job) same has)

-- ---- the jobs of all

-- none yet
pub no_jobs : (entities : List Entity) (controls : Controls) → AreFirstJobs entities controls 0 []
no_jobs entities controls = record { counted = refl; each = λ index d below. absurd (omega arith) }

-- one more
pub one_job_more : (entities : List Entity) (controls : Controls) (n : ℕ) (jobs more : List Job) (job : Job) (e : Entity) → e ≡ at entities n
    → HasJob controls e (sum (pins_of entities e)) job → more ≡ jobs ++ job ∷ [] → AreFirstJobs entities controls n jobs → AreFirstJobs entities controls (n + 1) more
one_job_more entities controls n jobs more job e here has grown before =
    subst (AreFirstJobs entities controls (n + 1)) (sym grown) (record {
      counted = length_push jobs job ∙ ap (λ k. k + 1) before.counted;
      each = λ index d below. elim (cases_lt index n) [
        | inl less ↦
            subst (HasJob controls (at entities index) (sum (pins_of entities (at entities index))))
            (sym (get_or_append_left jobs (job ∷ []) d index (omega (arith, before.counted)))) (before.each index d less)
        | inr past ↦
            (let last : n ≡ index = omega arith in
            subst (HasJob controls (at entities index) (sum (pins_of entities (at entities index))))
            (sym (get_or_push jobs job d index (before.counted ∙ last)))
            (subst (λ (f : Entity). HasJob controls f (sum (pins_of entities f)) job) (here ∙ ap (at entities) last) has))
      ];
    })

-- ---- other controls

module _ (before after : Controls) (id : ℕ) (same : (selector channel : ℕ) → before id selector channel ≡ after id selector channel) where
  same_value : (selector channel : ℕ) → control_value before id selector channel ≡ control_value after id selector channel
  same_value selector channel = ap (λ o. unwrap_or o (pos 0)) (same selector channel)

  same_volume : (selector channel : ℕ) → volume_gain before id selector channel ≡ volume_gain after id selector channel
  same_volume selector channel = ap (λ (v : ℤ). unwrap_or (gain_of v) unity) (same_value selector channel)

  same_feature : (channel : ℕ) → feature_gain before id channel ≡ feature_gain after id channel
  same_feature channel =
      ap (λ (v : ℤ). if not (int_eq v (pos 0)) then 0 else volume_gain before id 2 channel) (same_value 1 channel)
      ∙ ap (λ (n : ℕ). if not (int_eq (control_value after id 1 channel) (pos 0)) then 0 else n) (same_volume 2 channel)

  same_gain : (u : UnitKind) (number : ℕ) → gain_at before id u number ≡ gain_at after id u number
  same_gain unit.Mixer number = same_volume 1 number
  same_gain unit.Feature number = same_feature (if eqb (number % 2) 0 then number / 2 + 1 else 0)
  same_gain unit.Selector number = refl
  same_gain unit.Effect number = refl

  same_pin : (u : UnitKind) (count : ℕ) → pin_at before id u count ≡ pin_at after id u count
  same_pin unit.Selector count = ap (λ (v : ℤ). pin_of v count) (same_value 1 0)
  same_pin unit.Mixer count = refl
  same_pin unit.Feature count = refl
  same_pin unit.Effect count = refl

  same_job : (u : UnitKind) (channels count inputs : ℕ) (job : Job) → IsJob before id u channels count inputs job → IsJob after id u channels count inputs job
  same_job u channels count inputs job is = record {
    outputs = is.outputs;
    pin = is.pin ∙ same_pin u count;
    gains =
        is.gains
        ∙ range_same (gain_at before id u) (gain_at after id u) (gain_count u channels inputs) (λ k below. same_gain u k);
  }

-- another entity's job stays
other_job : (before after : Controls) (id : ℕ) (e : Entity) (inputs : ℕ) (job : Job) → AreSameBut id before after → (e.id ≡ id → ⊥) → HasJob before e inputs job
    → HasJob after e inputs job
other_job before after id e inputs job same other has u is =
    same_job before after e.id (λ selector channel. same e.id selector channel other) u e.cluster.channels (length e.sources) inputs job (has u is)

-- an entity at another index has another id
other_id : (entities : List Entity) (id k : ℕ) → IsSignalGraph entities → k < length entities → (k ≡ index_of entities id → ⊥) → (at entities k).id ≡ id → ⊥
other_id entities id k sound below other same = other (sym (sound.distinct k below) ∙ ap (index_of entities) same)

-- the job of the entity with an id is renewed
pub one_renewed : (entities : List Entity) (before after : Controls) (id index : ℕ) (jobs renewed : List Job) (job : Job) (e : Entity) → IsSignalGraph entities
    → index ≡ index_of entities id → index < length entities → e ≡ at entities index → HasJob after e (sum (pins_of entities e)) job → renewed ≡ set jobs index job
    → AreSameBut id before after → AreJobs entities before jobs → AreJobs entities after renewed
one_renewed entities before after id index jobs renewed job e sound named inside here has is same are =
    subst (AreJobs entities after) (sym is) (record {
      counted = length-set jobs index job ∙ are.counted;
      each = λ k d below. elim (cases_eq k index) [
        | inl own ↦
            subst (HasJob after (at entities k) (sum (pins_of entities (at entities k))))
            (sym (ap (λ (n : ℕ). get_or (set jobs index job) n d) own ∙ get_or-set_same jobs index job d (omega (arith, are.counted))))
            (subst (λ (f : Entity). HasJob after f (sum (pins_of entities f)) job) (here ∙ ap (at entities) (sym own)) has)
        | inr other ↦
            subst (HasJob after (at entities k) (sum (pins_of entities (at entities k)))) (sym (get_or-set_other jobs index k job d other))
            (other_job before after id (at entities k) (sum (pins_of entities (at entities k))) (get_or jobs k d) same
            (other_id entities id k sound below (λ p. other (p ∙ sym named))) (are.each k d below))
      ];
    })

-- no entity has the id
pub none_renewed : (entities : List Entity) (before after : Controls) (id : ℕ) (jobs : List Job) → IsSignalGraph entities → length entities ≤ index_of entities id
    → AreSameBut id before after → AreJobs entities before jobs → AreJobs entities after jobs
none_renewed entities before after id jobs sound past same are = record {
  counted = are.counted;
  each = λ k d below.
      other_job before after id (at entities k) (sum (pins_of entities (at entities k))) (get_or jobs k d) same
      (other_id entities id k sound below (λ p. absurd (omega (arith, p)))) (are.each k d below);
}
