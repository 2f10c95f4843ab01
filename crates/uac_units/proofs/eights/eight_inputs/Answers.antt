use Rattle.std.proofs.Common.{rules, ◌∷◌, []}
use Rattle.uac_units.proofs.SampleLanesLemmas.{input-read}
use Rattle.uac_units.proofs.eights.eight_inputs.Goals as goal

pub returns-clause-lanes : goal.returns-clause-lanes
returns-clause-lanes c =
    let read = input-read c.as_slice.result.now c.args.pins.now.items c.args.from c.as_slice.ensures.value in
    λ i. read 0 (search rules) i ∷ read 1 (search rules) i ∷ read 2 (search rules) i ∷ read 3 (search rules) i
    ∷ read 4 (search rules) i ∷ read 5 (search rules) i ∷ read 6 (search rules) i ∷ read 7 (search rules) i ∷ []
