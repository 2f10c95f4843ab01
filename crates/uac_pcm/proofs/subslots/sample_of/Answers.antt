-- A subslot has at most four bytes, so its number has at most 32 bits.
use Rattle.std.proofs.Common.{◌≡◌, ℕ, ◌-◌, ◌*◌, ◌^◌, w32, FitsSigned, rules, ap, ◌∙◌, sym, pos}
use Rattle.std.proofs.lemmas.Int.{to_z-of_z}
use Rattle.byteorder.specs.Endian.{little_number}
use Rattle.uac_pcm.specs.Subslots.{cut_to, wrap, sample_of_subslot}
use Rattle.uac_pcm.proofs.TonesWrapLemmas.{int_wrap-pos}
use Rattle.uac_pcm.proofs.subslots.sample_of.Goals as goal

pub returns : goal.returns
unfolding sample_of_subslot
returns c =
    let cut_fits : FitsSigned w32 c.cut_to.result = search rules in
    let raised_fits : FitsSigned w32 c.cast_signed.result = search rules in
    let raised : c.cast_signed.result ≡ wrap (pos (little_number c.args.size c.args.subslot.now * 2 ^ (32 - 8 * c.args.size))) =
    c.cast_signed.ensures
    ∙ sym (int_wrap-pos (c.number_in-number.result * 2 ^ (32 - 8 * c.args.size)))
    ∙ ap (λ (n : ℕ). wrap (pos (n * 2 ^ (32 - 8 * c.args.size)))) c.number_in-number.ensures in
    to_z-of_z w32 c.cut_to.result cut_fits
    ∙ c.cut_to.ensures
    ∙ ap (cut_to c.args.resolution) (to_z-of_z w32 c.cast_signed.result raised_fits ∙ raised)
