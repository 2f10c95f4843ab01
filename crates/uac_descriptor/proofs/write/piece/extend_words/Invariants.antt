use Rattle.std.proofs.Common.{◌≡◌, ◌+◌, ◌*◌, ◌++◌, take, flat_map}
use Rattle.arrayvec.specs.ArrayVec.{array_vec_len}
use Rattle.uac_descriptor.specs.Little as little
use Rattle.uac_descriptor.proofs.write.piece.extend_words.Given as goal

abbrev pub invariant-loop-word : goal.invariant-loop-word
invariant-loop-word l =
    (l.piece.items ≡ l.fn.piece.items ++ flat_map little.four (take l.word-index l.words))
    × (array_vec_len l.piece ≡ array_vec_len l.fn.piece + 4 * l.word-index)
