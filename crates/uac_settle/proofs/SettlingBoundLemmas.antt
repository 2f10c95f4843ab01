-- Why no bound is longer: each of the twelve is shorter.
use Rattle.std.proofs.Common.{arith, ◌≡◌, ℕ, ◌≤◌, Bool, true, false, Some, None, refl, ap, sym, ◌∙◌, subst}
use Rattle.std.specs.List.{AllByRecursion}
use Rattle.std.specs.Option.{option_map}
use Rattle.uac_clock.specs.Nominal.{twelve_rates, is_listed, values_of, nominal_of}
use Rattle.uac_clock.proofs.NominalLemmas.{each_listed, nominal_of-listed, nominal_of-unlisted}
use Rattle.uac_settle.specs.Settling.{settle_of}
use Rattle.uac_settle.specs.SettleLaws.{NoBoundIsLonger}

-- each of the twelve
twelve_are_short : AllByRecursion (λ hertz. settle_of (values_of hertz) ≤ 16384) twelve_rates
unfolding values_of
twelve_are_short =
    (omega arith, (omega arith, (omega arith, (omega arith, (omega arith, (omega arith, (omega arith, (omega arith, (omega arith, (omega arith, (omega arith, (omega arith, tt))))))))))))

pub no_bound_is_longer : NoBoundIsLonger
no_bound_is_longer hertz microframes h = from (is_listed hertz) refl where
  from : (b : Bool) → is_listed hertz ≡ b → microframes ≤ 16384
  from true listed =
      let short = each_listed (λ r. settle_of (values_of r) ≤ 16384) twelve_rates hertz listed twelve_are_short in
      let known : Some (settle_of (values_of hertz)) ≡ Some microframes = sym (ap (option_map settle_of) (nominal_of-listed hertz listed)) ∙ h in
      let same : settle_of (values_of hertz) ≡ microframes = cc in
      subst (λ n. n ≤ 16384) same short
  from false unlisted =
      let none : None ≡ Some microframes = sym (ap (option_map settle_of) (nominal_of-unlisted hertz unlisted)) ∙ h in
      cc
