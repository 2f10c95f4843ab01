-- The pieces make so many zeros.
use Rattle.std.proofs.Common.{◌≡◌, ◌+◌, ◌*◌, ◌%◌, ◌∙◌, ◌++◌, ℕ, List, replicate, ap, arith}
use Rattle.std.proofs.lemmas.List.{replicate-append-replicate}
use Rattle.uac_pcm.proofs.blanks.fill_zeros.Goals as goal

pub loop-each-preserved : goal.loop-each-preserved
loop-each-preserved c =
    let n : ℕ = c.loop-each._each in
    let more : n * 128 + 128 ≡ (n + 1) * 128 = omega arith in
    c.append_zeros.ensures.zeros
    ∙ ap (λ (xs : List ℕ). xs ++ replicate 128 0) c.loop-each.invariant
    ∙ replicate-append-replicate (n * 128) 128 0
    ∙ ap (λ (k : ℕ). replicate k 0) more

pub returns : goal.returns
returns c =
    let n : ℕ = c.loop-each._each in
    let all : n * 128 + c.args.len % 128 ≡ c.args.len = omega (arith, c.loop-each-test.false, c.loop-each.auto._each-end) in
    c.append_zeros-2.ensures.zeros
    ∙ ap (λ (xs : List ℕ). xs ++ replicate (c.args.len % 128) 0) c.loop-each.invariant
    ∙ replicate-append-replicate (n * 128) (c.args.len % 128) 0
    ∙ ap (λ (k : ℕ). replicate k 0) all
