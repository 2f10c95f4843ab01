-- One more sample is written in each turn.
use Rattle.std.proofs.Common.{rules, arith, ◌∙◌, ◌++◌, ◌∷◌, [], ℕ, ℤ, List, FitsSigned, w32, to_z, of_z, map, ap, sym}
use Rattle.std.specs.List.{range_with_len}
use Rattle.std.proofs.lemmas.Int.{to_z-of_z}
use Rattle.std.proofs.lemmas.List.{length-set, take_more_set}
use Rattle.std.proofs.lemmas.List.FromFn.{map-range_with_len_more}
use Rattle.uac_pcm.specs.Tones.{tone_sample}
use Rattle.uac_pcm.proofs.tones.Tone.write_each.Goals as goal

pub loop-channel-preserved : goal.loop-channel-preserved
loop-channel-preserved c =
    let n : ℕ = c.loop-channel.channel in
    let sample : ℕ → ℤ = tone_sample c.args.self.now c.args.place in
    let written : ℤ = to_z w32 (of_z w32 c.sample.result) in
    let fits : FitsSigned w32 c.sample.result = search rules in
    record {
      sounds = take_more_set c.loop-channel.samples n written (omega (arith, c.loop-channel.invariant.len))
          ∙ ap (λ (zs : List ℤ). zs ++ written ∷ []) c.loop-channel.invariant.sounds
          ∙ ap (λ (z : ℤ). map sample (range_with_len 0 n) ++ z ∷ [])
          (to_z-of_z w32 c.sample.result fits ∙ c.sample.ensures)
          ∙ sym (map-range_with_len_more sample 0 n n (omega arith));
      len = length-set _ _ _ ∙ c.loop-channel.invariant.len;
    }
