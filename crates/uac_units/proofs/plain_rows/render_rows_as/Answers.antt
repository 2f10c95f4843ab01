use Rattle.std.proofs.Common.{◌≡◌, ◌∙◌, ◌+◌, ◌*◌, [], ap, arith, sym, subst, ℕ, length, get_or}
use Rattle.uac_units.specs.declared.jobs.UnitKind.{UnitKind}
use Rattle.uac_units.specs.declared.jobs.UnitKind.TheVariants.{Mixer, Selector, Feature, Effect}
use Rattle.uac_units.specs.Rendering.{input}
use Rattle.uac_units.specs.SampleRows.{AreRenderedRows, frame_at, sample_at}
use Rattle.uac_units.proofs.SampleRowsLemmas.{input-frame_at, rows_rendered}
use Rattle.uac_units.proofs.plain_rows.render_rows_as.Goals as goal

pub returns-in-Mixer-clause-samples : goal.returns-in-Mixer-clause-samples
returns-in-Mixer-clause-samples c =
    let inputs = c.args.inputs.now in
    subst (λ (kind : UnitKind). AreRenderedRows kind c.args.job.now c.args.ticks inputs c.mix_rows.new.out) (sym c.in-Mixer.is)
    (rows_rendered Mixer c.args.job.now c.args.ticks inputs c.mix_rows.new.out (omega (arith, c.mix_rows.auto.out, c.requires.sized)) c.mix_rows.ensures.samples)

pub returns-in-Feature-clause-samples : goal.returns-in-Feature-clause-samples
returns-in-Feature-clause-samples c =
    let inputs = c.args.inputs.now in
    subst (λ (kind : UnitKind). AreRenderedRows kind c.args.job.now c.args.ticks inputs c.scale_rows.new.out) (sym c.in-Feature.is)
    (rows_rendered Feature c.args.job.now c.args.ticks inputs c.scale_rows.new.out (omega (arith, c.scale_rows.auto.out, c.requires.sized)) c.scale_rows.ensures.samples)

pub returns-in-Selector-clause-samples : goal.returns-in-Selector-clause-samples
returns-in-Selector-clause-samples c =
    let inputs = c.args.inputs.now in
    let pin = c.args.job.now.pin in
    let rows = c.pass_rows.new.out in
    subst (λ (kind : UnitKind). AreRenderedRows kind c.args.job.now c.args.ticks inputs rows) (sym c.in-Selector.is)
    (rows_rendered Selector c.args.job.now c.args.ticks inputs rows (omega (arith, c.pass_rows.auto.out, c.requires.sized))
    (λ channel below tick early.
    c.pass_rows.ensures.samples channel below tick early
    ∙ sym (input-frame_at tick inputs (pin * length c.args.out.now + channel))
    ∙ ap (λ (n : ℕ). input (frame_at tick inputs) (pin * n + channel)) c.requires.sized))

pub returns-in-Effect-clause-samples : goal.returns-in-Effect-clause-samples
returns-in-Effect-clause-samples c =
    let inputs = c.args.inputs.now in
    let rows = c.pass_rows-in-Effect.new.out in
    subst (λ (kind : UnitKind). AreRenderedRows kind c.args.job.now c.args.ticks inputs rows) (sym c.in-Effect.is)
    (rows_rendered Effect c.args.job.now c.args.ticks inputs rows (omega (arith, c.pass_rows-in-Effect.auto.out, c.requires.sized))
    (λ channel below tick early.
    let first : 0 + channel ≡ channel = omega arith in
    c.pass_rows-in-Effect.ensures.samples channel below tick early
    ∙ ap (λ (n : ℕ). sample_at tick (get_or inputs n [])) first
    ∙ sym (input-frame_at tick inputs channel)))
