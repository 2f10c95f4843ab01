use Rattle.std.proofs.Common.{rules, ◌≡◌, ◌∙◌, ap, ℕ, ℤ, List, drop, take, to_z, of_z, FitsSigned, w32, slice_set}
use Rattle.std.proofs.lemmas.Int.{to_z-of_z}
use Rattle.uac_pcm.specs.Subslots.{sample_of_subslot}
use Rattle.uac_pcm.proofs.FramesLemmas.{pair_read}
use Rattle.uac_pcm.proofs.subslots.read_pair.Goals as goal

pub returns : goal.returns
returns g c =
    let size : ℕ = g.row.SIZE in
    let subslots : List ℕ = c.args.subslots.now in
    let samples : List ℤ = c.args.samples.now in
    let left_fits : FitsSigned w32 c.sample_of.result = search rules in
    let right_fits : FitsSigned w32 c.sample_of-2.result = search rules in
    let left : c.sample_of.result ≡ sample_of_subslot size c.args.resolution (take size subslots) =
    c.sample_of.ensures ∙ ap (sample_of_subslot size c.args.resolution) c.split_at.ensures.front in
    let right : c.sample_of-2.result ≡ sample_of_subslot size c.args.resolution (drop size subslots) =
    c.sample_of-2.ensures ∙ ap (sample_of_subslot size c.args.resolution) c.split_at.ensures.back in
    ap (λ (z : ℤ). slice_set (slice_set samples 0 z) 1 (to_z w32 (of_z w32 c.sample_of-2.result))) (to_z-of_z w32 c.sample_of.result left_fits ∙ left)
    ∙ ap (λ (z : ℤ). slice_set (slice_set samples 0 (sample_of_subslot size c.args.resolution (take size subslots))) 1 z)
    (to_z-of_z w32 c.sample_of-2.result right_fits ∙ right)
    ∙ pair_read size c.args.resolution subslots samples c.requires.two c.requires.sized
