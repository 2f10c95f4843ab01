use Rattle.std.proofs.Common.{◌≡◌, ◌∙◌, ◌+◌, ◌*◌, ◌/◌, ◌<◌, ◌≤◌, ◌==◌, ap, arith, rules, subst, sym, w32, FitsSigned, ℕ, Option, Some}
use Rattle.std.specs.List.{find}
use Rattle.std.specs.Option.{option_map_or}
use Rattle.std.proofs.lemmas.Int.{to_z-of_z}
use Rattle.uac_device.specs.declared.clocks.DomainClock.{DomainClock}
use Rattle.uac_device.specs.DeviceKept.{IsDeviationInRange}
use Rattle.uac_device.specs.DeviceTurns.{first_ticks, step_by, ticks_of}
use Rattle.uac_device.proofs.DeviceTurnsTickLemmas.{found_holds, step_by_most}
use Rattle.uac_device.proofs.clocks.microframes_within.Goals as goal

pub step_by-requires-clause-low : goal.step_by-requires-clause-low
step_by-requires-clause-low c =
    let found : find (λ k. k.domain == c.args.domain) c.args.clocks.now ≡ Some c.in-Some.clock.now = sym c.in-Some.ensures in
    let range = found_holds (λ k. IsDeviationInRange k.deviation) c.args.domain c.args.clocks.now c.in-Some.clock.now c.requires.range found in
    let fits : FitsSigned w32 c.in-Some.clock.now.deviation = search rules in
    rw (to_z-of_z w32 c.in-Some.clock.now.deviation fits) range.0

pub step_by-requires-clause-high : goal.step_by-requires-clause-high
step_by-requires-clause-high c =
    let found : find (λ k. k.domain == c.args.domain) c.args.clocks.now ≡ Some c.in-Some.clock.now = sym c.in-Some.ensures in
    let range = found_holds (λ k. IsDeviationInRange k.deviation) c.args.domain c.args.clocks.now c.in-Some.clock.now c.requires.range found in
    let fits : FitsSigned w32 c.in-Some.clock.now.deviation = search rules in
    rw (to_z-of_z w32 c.in-Some.clock.now.deviation fits) range.1

pub returns-in-Some-clause-some : goal.returns-in-Some-clause-some
returns-in-Some-clause-some c enough =
    let found : find (λ k. k.domain == c.args.domain) c.args.clocks.now ≡ Some c.in-Some.clock.now = sym c.in-Some.ensures in
    let range = found_holds (λ k. IsDeviationInRange k.deviation) c.args.domain c.args.clocks.now c.in-Some.clock.now c.requires.range found in
    let fits : FitsSigned w32 c.in-Some.clock.now.deviation = search rules in
    let same : c.step_by.result ≡ step_by c.args.values c.in-Some.clock.now.deviation =
    c.step_by.ensures ∙ ap (step_by c.args.values) (to_z-of_z w32 c.in-Some.clock.now.deviation fits) in
    let most = step_by_most c.args.values c.in-Some.clock.now.deviation c.requires.of_a_rate range in
    c.steps_within.ensures.some (omega (arith, most, same)) enough

pub returns-in-Some-clause-within : goal.returns-in-Some-clause-within
returns-in-Some-clause-within c n past few =
    let found : find (λ k. k.domain == c.args.domain) c.args.clocks.now ≡ Some c.in-Some.clock.now = sym c.in-Some.ensures in
    let phase = found_holds (λ k. k.phase < 65536) c.args.domain c.args.clocks.now c.in-Some.clock.now past found in
    let fits : FitsSigned w32 c.in-Some.clock.now.deviation = search rules in
    let same : c.step_by.result ≡ step_by c.args.values c.in-Some.clock.now.deviation =
    c.step_by.ensures ∙ ap (step_by c.args.values) (to_z-of_z w32 c.in-Some.clock.now.deviation fits) in
    let ticks : first_ticks c.args.domain c.args.values n c.args.clocks.now ≡ (c.in-Some.clock.now.phase + c.step_by.result * n) / 65536 =
    ap (λ (o : Option DomainClock). option_map_or (ticks_of c.args.values n) o 0) found
    ∙ ap (λ (step : ℕ). (c.in-Some.clock.now.phase + step * n) / 65536) (sym same) in
    subst (λ (k : ℕ). k ≤ c.args.ticks) (sym ticks) (c.steps_within.ensures.within c.in-Some.clock.now.phase n phase few)
