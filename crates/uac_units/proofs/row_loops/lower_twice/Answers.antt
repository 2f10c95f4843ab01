use Rattle.std.proofs.Common.{◌∙◌, ap, arith, rules, ℤ, FitsSigned, w32}
use Rattle.std.proofs.lemmas.Int.{to_z-of_z}
use Rattle.uac_gain.specs.Gain.{scaled_sample}
use Rattle.uac_units.specs.SampleRows.{sample_at}
use Rattle.uac_units.proofs.SampleRowsLemmas.{samples_more}
use Rattle.uac_units.proofs.row_loops.lower_twice.Goals as goal

pub loop-tick-preserved : goal.loop-tick-preserved
loop-tick-preserved c =
    let tick = c.loop-tick.tick in
    let input = sample_at tick c.args.samples.now in
    let outer = c.lower-in-loop-tick in
    let fits : FitsSigned w32 input = search rules in
    samples_more (λ t. scaled_sample (scaled_sample (sample_at t c.args.samples.now) c.args.own) c.args.master) tick c.loop-tick.out _ (omega arith)
    c.loop-tick.invariant
    (to_z-of_z w32 outer.result (record { sfits = outer.type_inv }) ∙ outer.ensures
    ∙ ap (λ (z : ℤ). scaled_sample z c.args.master)
    (to_z-of_z w32 c.lower.result (record { sfits = c.lower.type_inv }) ∙ c.lower.ensures ∙ ap (λ (z : ℤ). scaled_sample z c.args.own) (to_z-of_z w32 input fits)))
