use Rattle.std.proofs.Common.{rules, arith, ◌∙◌, ◌≡◌, ◌-◌, ◌+◌, ◌*◌, ap, ℕ, take, drop, FitsSigned, w32}
use Rattle.std.proofs.lemmas.Int.{to_z-of_z}
use Rattle.std.proofs.lemmas.List.{length-set}
use Rattle.uac_pcm.proofs.FramesLemmas.{sample_read}
use Rattle.uac_pcm.proofs.subslots.read_each.Goals as goal

pub loop-place-preserved : goal.loop-place-preserved
loop-place-preserved g c =
    let size : ℕ = g.row.SIZE in
    let start : ℕ = c.loop-place.place * size in
    let sample_fits : FitsSigned w32 c.sample_of.result = search rules in
    let wide : start + size - start ≡ size = omega arith in
    record {
      sized = length-set _ _ _ ∙ c.loop-place.invariant.sized;
      read = sample_read size c.args.resolution c.loop-place.place c.args.subslots.now (take (start + size - start) (drop start c.args.subslots.now)) c.loop-place.samples _ (omega arith)
          c.loop-place.invariant.read (ap (λ (n : ℕ). take n (drop start c.args.subslots.now)) wide) (to_z-of_z w32 c.sample_of.result sample_fits ∙ c.sample_of.ensures);
    }
