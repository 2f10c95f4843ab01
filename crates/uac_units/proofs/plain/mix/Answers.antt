use Rattle.std.proofs.Common.{◌≡◌, ◌∙◌, ap, sym, arith, to_z, w64, ◌+ℤ◌, ◌+◌, ◌*◌, get_or, length, ℕ, List}
use Rattle.uac_gain.specs.Gain.{scaled_sample}
use Rattle.uac_units.specs.Rendering.{input}
use Rattle.uac_units.proofs.RenderingMixLemmas.{few_inputs, mixed_front, mixed_front_more, node, sum_fits, sum-bound}
use Rattle.uac_units.proofs.plain.mix.Goals as goal

pub loop-at-preserved : goal.loop-at-preserved
loop-at-preserved c =
    let sum = to_z w64 c.loop-at.sum-bits in
    let sample = c.mixed_input.result in
    let at = c.loop-at.at in
    let place = at * c.args.job.now.outputs + c.args.channel in
    let scaled_here : sample ≡ node c.args.job.now c.args.inputs.now c.args.channel at =
    c.mixed_input.ensures
    ∙ ap (λ (gains : List ℕ). scaled_sample (input c.args.inputs.now at) (get_or gains place 0)) c.as_slice-gains.ensures.value in
    let few = few_inputs (length c.args.inputs.now) c.args.job.now.outputs (length c.args.job.now.gains.items) c.requires.fits.some c.requires.fits.numbers
    (omega (arith, ap length c.as_slice-gains.ensures.value, c.as_slice-gains.ensures.fits)) in
    let whole = sum_fits sum sample at c.loop-at.invariant.1 (omega (arith, few)) c.mixed_input.type_inv in (
      whole ∙ ap (λ z. z +ℤ sample) c.loop-at.invariant.0 ∙ ap (λ z. mixed_front c.args.job.now c.args.inputs.now c.args.channel at +ℤ z) scaled_here
          ∙ sym (mixed_front_more c.args.job.now c.args.inputs.now c.args.channel at),
      rw whole (sum-bound sum sample at c.loop-at.invariant.1 c.mixed_input.type_inv),
    )
