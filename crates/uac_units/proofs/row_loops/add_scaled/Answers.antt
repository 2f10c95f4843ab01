use Rattle.std.proofs.Common.{◌≡◌, ◌∙◌, ◌+◌, ◌^◌, ◌≤◌, ap, arith, sym, subst, rules, ℤ, ◌+ℤ◌, unsigned_abs, FitsSigned, w32}
use Rattle.std.proofs.lemmas.Int.{to_z-of_z}
use Rattle.uac_gain.specs.Gain.{scaled_sample}
use Rattle.uac_units.specs.SampleRows.{sample_at}
use Rattle.uac_units.proofs.SampleRowsLemmas.{added, rest_kept, samples_more}
use Rattle.uac_units.proofs.row_loops.add_scaled.Goals as goal

pub loop-tick-preserved : goal.loop-tick-preserved
loop-tick-preserved c =
    let tick = c.loop-tick.tick in
    let sums = c.args.sums.now in
    let sum = sample_at tick c.loop-tick.sums in
    let input = sample_at (c.args.from + tick) c.args.samples.now in
    let fits : FitsSigned w32 input = search rules in
    let held : sum ≡ sample_at tick sums = c.loop-tick.invariant.rest tick (omega arith) in
    let small : unsigned_abs sum ≤ 2 ^ 40 = subst (λ (z : ℤ). unsigned_abs z ≤ 2 ^ 40) (sym held) (c.requires.room tick (omega arith)) in
    let whole = added sum c.scale.result small c.scale.type_inv in
    record {
      done =
          samples_more (λ t. sample_at t sums +ℤ scaled_sample (sample_at (c.args.from + t) c.args.samples.now) c.args.gain) tick c.loop-tick.sums _ (omega arith)
          c.loop-tick.invariant.done
          (whole ∙ ap (λ (z : ℤ). z +ℤ c.scale.result) held ∙ ap (λ (z : ℤ). sample_at tick sums +ℤ z) (c.scale.ensures ∙ ap (λ (z : ℤ). scaled_sample z c.args.gain) (to_z-of_z w32 input fits)));
      rest = rest_kept tick sums c.loop-tick.sums _ c.loop-tick.invariant.rest;
    }
