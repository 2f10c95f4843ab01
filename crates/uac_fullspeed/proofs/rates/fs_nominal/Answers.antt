use Rattle.std.proofs.Common.{◌≡◌, ℕ, Some, true, false, ap, sym, ◌∙◌}
use Rattle.uac_fullspeed.specs.FullSpeedNominal.{fs_values_of, is_fs_listed}
use Rattle.uac_fullspeed.proofs.BandsLemmas.{fs_listed, fs_unlisted}
use Rattle.uac_fullspeed.proofs.rates.fs_nominal.Goals as goal

pub returns-then-not-contains : goal.returns-then-not-contains
returns-then-not-contains c =
    let listed : is_fs_listed c.args.rate ≡ false = sym c.contains.ensures.value ∙ c.if-not-contains.true in
    sym (fs_unlisted c.args.rate listed)

pub returns : goal.returns
unfolding fs_values_of
returns c =
    let listed : is_fs_listed c.args.rate ≡ true = sym c.contains.ensures.value ∙ c.if-not-contains.false in
    ap (λ (n : ℕ). Some (fs_values_of n)) c.from.ensures ∙ sym (fs_listed c.args.rate listed)
