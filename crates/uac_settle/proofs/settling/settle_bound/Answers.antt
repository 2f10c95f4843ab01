use Rattle.std.proofs.Common.{◌≡◌, ℕ, Option, Some, ap, sym, ◌∙◌, subst}
use Rattle.uac_clock.specs.declared.values.Nominal.{Nominal}
use Rattle.uac_settle.specs.Settling.{settle_of, SettlesWithin}
use Rattle.uac_settle.proofs.settling.settle_bound.Goals as goal

-- the bound of a rate is that of its values
of_its_values : (values nominal : Nominal) (result : ℕ) (found known : Option Nominal) → found ≡ Some nominal → found ≡ known → known ≡ Some values
    → result ≡ settle_of nominal → SettlesWithin values (settle_of values) → SettlesWithin values result
of_its_values values nominal result found known some same is_some h settles =
    let equal : nominal ≡ values = cc in
    subst (SettlesWithin values) (sym (h ∙ ap settle_of equal)) settles

pub returns-clause-settles : goal.returns-clause-settles
returns-clause-settles c = λ values h.
    let rate = c.rates_have_bands.ensures values (c.args.rate, h) in
    of_its_values values c.in_ok-nominal.nominal c.settle.result c.nominal.result _ c.in_ok-nominal.was c.nominal.ensures h c.settle.ensures
    (c.stretches_settle.ensures values rate.0 rate.1)
