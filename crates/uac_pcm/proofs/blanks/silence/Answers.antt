use Rattle.std.proofs.Common.{◌≡◌, ◌≤◌, ◌+◌, ◌∙◌, ◌++◌, ℕ, ℤ, pos, List, length, take, replicate, ap, arith}
use Rattle.std.proofs.lemmas.List.{length-take-le, take-replicate}
use Rattle.uac_pcm.proofs.FramesLemmas.{where_ok}
use Rattle.uac_pcm.proofs.blanks.silence.Goals as goal

pub returns-else-channels-eq2-clause-samples : goal.returns-else-channels-eq2-clause-samples
returns-else-channels-eq2-clause-samples c =
    let zeros : List ℤ = take c.from.result (replicate 32 (pos 0)) in
    let within : c.from.result ≤ 32 = omega (arith, c.from.ensures, c.requires) in
    let few : length zeros ≡ c.from.result = length-take-le c.from.result (replicate 32 (pos 0)) within in
    let room : length c.clear.new.self.items + length zeros ≤ 32 = omega (arith, ap length c.clear.ensures) in
    where_ok c.try_extend_from_slice.result (c.try_extend_from_slice.ensures.variant.1 room) c.try_extend_from_slice.ensures.ok
    ∙ ap (λ (xs : List ℤ). xs ++ zeros) c.clear.ensures
    ∙ ap (λ (n : ℕ). take n (replicate 32 (pos 0))) c.from.ensures
    ∙ take-replicate c.args.channels 32 (pos 0) c.requires
