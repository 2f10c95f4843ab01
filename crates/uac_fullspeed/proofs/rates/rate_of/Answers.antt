-- A rate is what its nominal frames come to, rounded up: they are less than a 16,384th too few.
use Rattle.std.proofs.Common.{arith, refl, ◌≡◌, ℕ, ◌+◌, ◌*◌, ◌/◌, ap, sym, ◌∙◌}
use Rattle.uac_fullspeed.specs.declared.values.FsNominal.{FsNominal}
use Rattle.uac_fullspeed.specs.FullSpeedNominal.{fs_values_of}
use Rattle.uac_fullspeed.proofs.BandsLemmas.{listed_nominal}
use Rattle.uac_fullspeed.proofs.rates.rate_of.Goals as goal

frames_of : (hertz : ℕ) → (fs_values_of hertz).f ≡ hertz * 16384 / 1000
unfolding fs_values_of
frames_of hertz = refl

rounded_up : (f hertz : ℕ) → f ≡ hertz * 16384 / 1000 → (f * 1000 + 16383) / 16384 ≡ hertz
rounded_up f hertz h = omega arith

pub returns : goal.returns
returns c = λ hertz h.
    let is : c.args.nominal.now.f ≡ hertz * 16384 / 1000 =
    ap (λ (v : FsNominal). v.f) (sym (listed_nominal hertz c.args.nominal.now h).1) ∙ frames_of hertz in
    ap (λ (f : ℕ). (f * 1000 + 16383) / 16384) c.from.ensures ∙ rounded_up c.args.nominal.now.f hertz is
