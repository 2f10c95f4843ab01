use Rattle.std.proofs.Common.{rules, ◌∙◌, ap, ℤ, FitsSigned, w32, slice_set}
use Rattle.std.proofs.lemmas.Int.{to_z-of_z}
use Rattle.uac_pcm.proofs.FramesLemmas.{only_read}
use Rattle.uac_pcm.proofs.subslots.read_only.Goals as goal

pub returns : goal.returns
returns g c =
    let fits : FitsSigned w32 c.sample_of.result = search rules in
    ap (λ (z : ℤ). slice_set c.args.samples.now 0 z) (to_z-of_z w32 c.sample_of.result fits ∙ c.sample_of.ensures)
    ∙ only_read g.row.SIZE c.args.resolution c.args.subslots.now c.args.samples.now c.requires.one c.requires.sized
