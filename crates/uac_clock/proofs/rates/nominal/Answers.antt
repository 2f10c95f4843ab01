use Rattle.std.proofs.Common.{◌≡◌, ℕ, Some, true, false, ap, sym, ◌∙◌}
use Rattle.uac_clock.specs.Nominal.{values_of, is_listed}
use Rattle.uac_clock.proofs.NominalLemmas.{nominal_of-listed, nominal_of-unlisted}
use Rattle.uac_clock.proofs.rates.nominal.Goals as goal

pub returns-then-not-contains : goal.returns-then-not-contains
returns-then-not-contains c =
    let listed : is_listed c.args.rate ≡ false = sym c.contains.ensures.value ∙ c.if-not-contains.true in
    sym (nominal_of-unlisted c.args.rate listed)

pub returns : goal.returns
unfolding values_of
returns c =
    let listed : is_listed c.args.rate ≡ true = sym c.contains.ensures.value ∙ c.if-not-contains.false in
    ap (λ (n : ℕ). Some (values_of n)) c.from.ensures ∙ sym (nominal_of-listed c.args.rate listed)
