use Rattle.std.proofs.Common.{refl, arith, rules, ◌*◌, ◌∷◌, []}
use Rattle.uac_units.proofs.SampleLanesLemmas.{gain-read}
use Rattle.uac_units.proofs.eights.eight_gains.Goals as goal

pub returns-clause-lanes : goal.returns-clause-lanes
returns-clause-lanes c =
    let read = gain-read c.as_slice.result.now c.args.job.now.gains.items c.args.from c.args.apart c.as_slice.ensures.value in
    λ i. read 0 0 (omega arith) (search rules) i ∷ read 1 c.args.apart (omega arith) (search rules) i ∷ read 2 (2 * c.args.apart) refl (search rules) i
    ∷ read 3 (3 * c.args.apart) refl (search rules) i ∷ read 4 (4 * c.args.apart) refl (search rules) i ∷ read 5 (5 * c.args.apart) refl (search rules) i
    ∷ read 6 (6 * c.args.apart) refl (search rules) i ∷ read 7 (7 * c.args.apart) refl (search rules) i ∷ []
