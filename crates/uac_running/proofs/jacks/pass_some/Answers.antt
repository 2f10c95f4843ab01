use Rattle.std.proofs.Common.{◌≡◌, ◌∙◌, ℕ, ◌+◌, ◌<◌, ◌^◌, ap, arith, sym}
use Rattle.uac_units.specs.Hearing.{at_most_u64}
use Rattle.uac_device.specs.declared.jacks.Jack.{Jack}
use Rattle.uac_device.proofs.JacksLemmas.{place_after}
use Rattle.uac_running.proofs.EventTicksLemmas.{other_after}
use Rattle.uac_running.proofs.jacks.pass_some.Goals as goal

pub returns-then-jack-domain : goal.returns-then-jack-domain
returns-then-jack-domain c =
    let j : Jack = c.args.jack.now in
    let own : j.domain ≡ c.args.domain = c.if-jack-domain.true in
    let few : j.place < 2 ^ 64 = omega arith in
    let is : c.saturating_add-jack.result ≡ at_most_u64 (j.place + c.args.count) = omega arith in
    ap (λ (n : ℕ). record j { place = n }) is ∙ sym (place_after c.args.domain c.args.count j own few)

pub returns-else-jack-domain : goal.returns-else-jack-domain
returns-else-jack-domain c = sym (other_after c.args.domain c.args.count c.args.jack.now c.if-jack-domain.false)
