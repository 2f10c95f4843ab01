use Rattle.std.proofs.Common.{◌≡◌, ◌≤◌, ◌∙◌, ◌+◌, ◌*◌, ◌^◌, ◌+ℤ◌, ap, arith, sym, subst, ℕ, ℤ, List, get_or, length, unsigned_abs}
use Rattle.uac_gain.specs.Gain.{scaled_sample}
use Rattle.uac_units.specs.Rendering.{input}
use Rattle.uac_units.specs.SampleRows.{frame_at, sample_at}
use Rattle.uac_units.proofs.RenderingMixLemmas.{few_inputs, mixed-bound, mixed_front, mixed_front_more, node}
use Rattle.uac_units.proofs.SampleRowsLemmas.{input-frame_at, length-frame_at, silent_at, stands}
use Rattle.uac_units.proofs.plain_rows.mix_piece.Goals as goal

pub loop-at-init : goal.loop-at-init
loop-at-init c = λ tick early. silent_at 32 tick

pub add_to-requires-clause-room : goal.add_to-requires-clause-room
add_to-requires-clause-room c = λ tick early.
    let inputs = frame_at (c.args.from + tick) c.args.inputs.now in
    let few =
    few_inputs (length (frame_at 0 c.args.inputs.now)) c.args.job.now.outputs (length c.args.job.now.gains.items) c.requires.fits.some c.requires.fits.numbers
    (omega (arith, ap length c.as_slice-gains.ensures.value, c.as_slice-gains.ensures.fits)) in
    let bound = mixed-bound c.args.job.now inputs c.args.channel c.loop-at.at in
    let small : unsigned_abs (mixed_front c.args.job.now inputs c.args.channel c.loop-at.at) ≤ 2 ^ 40 =
    omega (arith, bound, few, length-frame_at 0 c.args.inputs.now, c.loop-at-test.true) in
    subst (λ (z : ℤ). unsigned_abs z ≤ 2 ^ 40) (sym (c.loop-at.invariant tick early)) small

pub loop-at-preserved : goal.loop-at-preserved
loop-at-preserved c = λ tick early.
    let at = c.loop-at.at in
    let inputs = frame_at (c.args.from + tick) c.args.inputs.now in
    let place = at * c.args.job.now.outputs + c.args.channel in
    let row = stands c.args.inputs.now at c.index-inputs-at.result (omega arith) c.index-inputs-at.is in
    let scaled_here : scaled_sample (sample_at (c.args.from + tick) c.index-inputs-at.result) (get_or c.as_slice-gains.result.now place 0)
    ≡ node c.args.job.now inputs c.args.channel at =
    ap (λ (z : ℤ). scaled_sample z (get_or c.as_slice-gains.result.now place 0))
    (ap (sample_at (c.args.from + tick)) row ∙ sym (input-frame_at (c.args.from + tick) c.args.inputs.now at))
    ∙ ap (λ (gains : List ℕ). scaled_sample (input inputs at) (get_or gains place 0)) c.as_slice-gains.ensures.value in
    c.add_to.ensures tick early
    ∙ ap (λ (z : ℤ). z +ℤ scaled_sample (sample_at (c.args.from + tick) c.index-inputs-at.result) (get_or c.as_slice-gains.result.now place 0))
    (c.loop-at.invariant tick early)
    ∙ ap (λ (z : ℤ). mixed_front c.args.job.now inputs c.args.channel at +ℤ z) scaled_here
    ∙ sym (mixed_front_more c.args.job.now inputs c.args.channel at)
