-- A sum or a product of numbers that have wrapped already wraps to the same number.
use Rattle.std.proofs.Common.{rules, ◌≡◌, ◌+◌, w32, pos, FitsSigned, to_z, ap, ◌∙◌, sym}
use Rattle.std.specs.Int.{int_wrap}
use Rattle.std.proofs.Math.Nat.{mod-add-mod}
use Rattle.std.proofs.lemmas.Int.{to_z-of_z}
use Rattle.uac_pcm.proofs.TonesWrapLemmas.{line_wraps, int_wrap-pos, noise_wraps}
use Rattle.uac_pcm.proofs.tones.Tone.sample.Goals as goal

pub returns-in-Ramp : goal.returns-in-Ramp
returns-in-Ramp c =
    let start_fits : FitsSigned w32 c.in-Ramp.start = search rules in
    let step_fits : FitsSigned w32 c.in-Ramp.step = search rules in
    let rises_fit : FitsSigned w32 c.cast_signed-rises.result = search rules in
    let rises : c.cast_signed-rises.result ≡ int_wrap w32 (pos (c.args.place + c.args.channel)) =
    c.cast_signed-rises.ensures
    ∙ ap (to_z w32) (mod-add-mod c.args.place 4294967296 c.args.channel)
    ∙ sym (int_wrap-pos (c.args.place + c.args.channel)) in
    rw c.in-Ramp.is (line_wraps _ _ _ (c.args.place + c.args.channel) start_fits step_fits rises_fit rises)

pub returns-in-Noise : goal.returns-in-Noise
returns-in-Noise c =
    let fits : FitsSigned w32 c.cast_signed.result = search rules in
    rw c.in-Noise.is
    (to_z-of_z w32 c.cast_signed.result fits
    ∙ c.cast_signed.ensures
    ∙ ap (to_z w32) (noise_wraps c.in-Noise.seed c.args.place c.args.channel)
    ∙ sym (int_wrap-pos _))
