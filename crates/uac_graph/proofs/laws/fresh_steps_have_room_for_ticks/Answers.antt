use Rattle.std.proofs.Common.{ap, arith, length}
use Rattle.std.proofs.lemmas.Nat.{mul-le}
use Rattle.uac_graph.specs.Needs.{needed_units}
use Rattle.uac_graph.proofs.NeedsLemmas.{needed_few}
use Rattle.uac_graph.proofs.laws.fresh_steps_have_room_for_ticks.Goals as goal

pub returns : goal.returns
returns c = λ domain ticks few.
    let entities = c.args.function.now.entities in
    omega (arith, mul-le ticks (length (needed_units entities domain)) 128 (length entities) few (needed_few entities domain), ap length c.entities-entities.ensures, c.entities-entities.type_inv.1)
