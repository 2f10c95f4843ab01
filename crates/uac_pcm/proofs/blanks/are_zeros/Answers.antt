-- Eight bytes are zeros where their number is, and those after the last eight are read one by one.
use Rattle.std.proofs.Common.{◌≡◌, ◌≤◌, ◌+◌, ◌*◌, ◌/◌, ℕ, List, length, take, drop, ap, arith, subst, replicate, ◌-◌}
use Rattle.std.proofs.lemmas.List.{length-drop, take_all}
use Rattle.uac_pcm.proofs.ZerosLemmas.{eight_more, zeros_by_rest}
use Rattle.uac_pcm.proofs.blanks.are_zeros.Goals as goal

pub loop-number-preserved : goal.loop-number-preserved
loop-number-preserved c =
    let n : ℕ = c.loop-number.number in
    let bytes : List ℕ = c.args.bytes.now in
    let there : n * 8 + 8 ≤ length bytes = omega (arith, c.loop-number-test.true) in
    let wide : n * 8 + 8 - n * 8 ≡ 8 = omega arith in
    eight_more n c.read_u64.result bytes _ there c.loop-number.invariant (ap (λ (k : ℕ). take k (drop (n * 8) bytes)) wide) c.read_u64.ensures c.if-read_u64-ne0.false

pub returns : goal.returns
returns c =
    let bytes : List ℕ = c.args.bytes.now in
    let n : ℕ = length bytes / 8 in
    let last : c.loop-number.number ≡ n = omega (arith, c.loop-number-test.false, c.loop-number.auto.number-end) in
    let rest : List ℕ = take (length bytes - n * 8) (drop (n * 8) bytes) in
    let all : rest ≡ drop (n * 8) bytes = take_all (length bytes - n * 8) (drop (n * 8) bytes) (omega (arith, length-drop (n * 8) bytes)) in
    let by = zeros_by_rest (n * 8) bytes rest (omega arith) (subst (λ (k : ℕ). take (k * 8) bytes ≡ replicate (k * 8) 0) last c.loop-number.invariant) all in
    (λ yes. by.0 (c.are_zeros_each.ensures.0 yes), λ zeros. c.are_zeros_each.ensures.1 (by.1 zeros))
