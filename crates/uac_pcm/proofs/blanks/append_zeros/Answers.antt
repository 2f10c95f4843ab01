-- The packet has room, so all zeros that were cut off are appended.
use Rattle.std.proofs.Common.{◌≡◌, ◌≤◌, ◌+◌, ◌∙◌, ◌++◌, ℕ, List, length, take, replicate, ap, arith}
use Rattle.std.proofs.lemmas.List.{length-take-le, take-replicate}
use Rattle.uac_pcm.proofs.FramesLemmas.{where_ok}
use Rattle.uac_pcm.proofs.blanks.append_zeros.Goals as goal

pub returns-clause-zeros : goal.returns-clause-zeros
returns-clause-zeros c =
    let count : ℕ = c.args.count in
    let zeros : List ℕ = take count (replicate 128 0) in
    let few : length zeros ≡ count = length-take-le count (replicate 128 0) c.requires.few in
    let room : length c.args.packet.now.items + length zeros ≤ 3072 = omega (arith, c.requires.room) in
    where_ok c.try_extend_from_slice.result (c.try_extend_from_slice.ensures.variant.1 room) c.try_extend_from_slice.ensures.ok
    ∙ ap (λ (xs : List ℕ). c.args.packet.now.items ++ xs) (take-replicate count 128 0 c.requires.few)
