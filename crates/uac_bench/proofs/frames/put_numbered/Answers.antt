-- One frame more.
use Rattle.std.proofs.Common.{◌∙◌, ◌∷◌, [], ap, ℤ, refl, w32}
use Rattle.std.proofs.lemmas.Int.{to_z-of_z}
use Rattle.uac_bench.proofs.FramesLemmas.{numbered_further, wrapped_number}
use Rattle.uac_bench.proofs.frames.put_numbered.Goals as goal

pub loop-at-preserved : goal.loop-at-preserved
loop-at-preserved c = λ n kept.
    numbered_further c.put.result c.loop-at.at c.args.count n c.args.ring.now c.loop-at.ring c.put.new.self c.mono-frame.result.items
    (c.loop-at.invariant n kept) c.requires c.loop-at-test.true
    (c.mono-frame.ensures ∙ ap (λ (s : ℤ). s ∷ []) (to_z-of_z w32 c.cast_signed.result (record { sfits = c.cast_signed.type_inv })
    ∙ wrapped_number n c.args.formed _ c.loop-at.at c.cast_signed.result kept refl c.cast_signed.ensures))
    c.put.ensures.full c.put.ensures.appended
