-- The bytes that are kept are the uppermost of the cut sample.
use Rattle.std.proofs.Common.{◌≡◌, ◌/◌, ◌^◌, ◌-◌, ◌*◌, ℕ, [], ◌∷◌, take, drop, ℤ, FitsSigned, w32, of_z, rules, ap, ◌∙◌}
use Rattle.std.proofs.lemmas.Int.{to_z-of_z}
use Rattle.byteorder.specs.Endian.{little_bytes}
use Rattle.uac_pcm.specs.Subslots.{cut_to}
use Rattle.uac_pcm.proofs.SubslotsLemmas.{take-four_bytes, subslot-top_bytes}
use Rattle.uac_pcm.proofs.subslots.write_subslot.Goals as goal

pub returns : goal.returns
returns c =
    let size : ℕ = c.args.size in
    let sample_fits : FitsSigned w32 c.args.sample = c.ranges.sample in
    let cut_fits : FitsSigned w32 c.cut_to.result = search rules in
    let is_cut : c.cut_to.result ≡ cut_to c.args.resolution c.args.sample = c.cut_to.ensures ∙ ap (cut_to c.args.resolution) (to_z-of_z w32 c.args.sample sample_fits) in
    c.copy_from_slice.ensures.after
    ∙ ap (take size) c.write_u32.ensures
    ∙ take-four_bytes size _ (drop 4 (0 ∷ 0 ∷ 0 ∷ 0 ∷ [])) c.requires.four
    ∙ ap (λ (n : ℕ). little_bytes size (n / 2 ^ (32 - 8 * size))) c.cast_unsigned.ensures
    ∙ ap (λ (z : ℤ). little_bytes size (of_z w32 z / 2 ^ (32 - 8 * size))) (to_z-of_z w32 c.cut_to.result cut_fits)
    ∙ subslot-top_bytes size c.args.resolution c.args.sample c.cut_to.result c.requires.four cut_fits is_cut
