use Rattle.std.proofs.Common.{◌≡◌, ◌∙◌, ◌*◌, ◌≤◌, ap, arith, rules, w32, FitsSigned}
use Rattle.std.proofs.lemmas.Int.{to_z-of_z}
use Rattle.std.proofs.lemmas.Nat.{mul-le}
use Rattle.uac_device.specs.DeviceTurns.{step_by}
use Rattle.uac_device.proofs.DeviceTurnsTickLemmas.{step_by_most}
use Rattle.uac_device.proofs.clocks.advance_one.Goals as goal

pub overflow_mul-gives : goal.overflow_mul-gives
overflow_mul-gives c =
    let fits : FitsSigned w32 c.args.clock.now.deviation = search rules in
    let same : c.step_by-gives.result ≡ step_by c.args.values c.args.clock.now.deviation =
    c.step_by-gives.ensures ∙ ap (step_by c.args.values) (to_z-of_z w32 c.args.clock.now.deviation fits) in
    let most = step_by_most c.args.values c.args.clock.now.deviation c.requires.of_a_rate c.requires.range in
    let product : c.step_by-gives.result * c.args.microframes ≤ 1730150 * 64 = mul-le c.step_by-gives.result c.args.microframes 1730150 64 (omega (arith, most, same)) c.requires.few in
    record { fits = omega (arith, product) }
