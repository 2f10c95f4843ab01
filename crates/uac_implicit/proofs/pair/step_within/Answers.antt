use Rattle.std.proofs.Common.{◌≤◌, ◌∙◌, ap, arith, w32}
use Rattle.std.proofs.lemmas.Int.{to_z-of_z}
use Rattle.uac_clock.specs.Nominal.{step_of}
use Rattle.uac_implicit.proofs.PairKeptLemmas.{step_few}
use Rattle.uac_implicit.proofs.pair.step_within.Goals as goal

pub returns-clause-bounded : goal.returns-clause-bounded
returns-clause-bounded c =
    let room = c.nominal_values_leave_room.ensures.room c.args.nominal.now c.requires.of_a_rate in
    let few : c.args.nominal.now.f ≤ 1638400 = omega (arith, room.above, room.most) in
    step_few c.args.nominal.now c.args.ppm c.step.result few c.requires.high
    (c.step.ensures ∙ ap (step_of c.args.nominal.now) (to_z-of_z w32 c.args.ppm c.ranges.ppm))
