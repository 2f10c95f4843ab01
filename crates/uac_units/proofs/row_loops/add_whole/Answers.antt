use Rattle.std.proofs.Common.{◌≡◌, ◌∙◌, ◌+◌, ◌^◌, ◌≤◌, ap, arith, sym, subst, rules, ℤ, ◌+ℤ◌, unsigned_abs, FitsSigned, w32}
use Rattle.uac_gain.specs.Gain.{scaled_sample, unity}
use Rattle.uac_units.specs.SampleRows.{sample_at}
use Rattle.uac_units.proofs.SampleRowsLemmas.{added, rest_kept, samples_more}
use Rattle.uac_units.proofs.row_loops.add_whole.Goals as goal

pub loop-tick-preserved : goal.loop-tick-preserved
loop-tick-preserved c =
    let tick = c.loop-tick.tick in
    let sums = c.args.sums.now in
    let sum = sample_at tick c.loop-tick.sums in
    let input = sample_at (c.args.from + tick) c.args.samples.now in
    let fits : FitsSigned w32 input = search rules in
    let held : sum ≡ sample_at tick sums = c.loop-tick.invariant.rest tick (omega arith) in
    let small : unsigned_abs sum ≤ 2 ^ 40 = subst (λ (z : ℤ). unsigned_abs z ≤ 2 ^ 40) (sym held) (c.requires.room tick (omega arith)) in
    let whole = added sum input small fits.sfits in
    record {
      done =
          samples_more (λ t. sample_at t sums +ℤ scaled_sample (sample_at (c.args.from + t) c.args.samples.now) unity) tick c.loop-tick.sums _ (omega arith)
          c.loop-tick.invariant.done
          (whole ∙ ap (λ (z : ℤ). z +ℤ input) held ∙ ap (λ (z : ℤ). sample_at tick sums +ℤ z) (sym (c.unity_changes_nothing.ensures.sample input fits)));
      rest = rest_kept tick sums c.loop-tick.sums _ c.loop-tick.invariant.rest;
    }
