use Rattle.std.proofs.Common.{◌≡◌, ◌∙◌, ap, sym, arith, ℕ}
use Rattle.uac_streaming.proofs.StreamingWorldFoundLemmas.{found_in, found_nothing, found_of}
use Rattle.uac_streaming.proofs.streaming.count_found.Goals as goal

pub returns-then-found-eq0-2 : goal.returns-then-found-eq0-2
returns-then-found-eq0-2 c before w clock is found =
    let empty : 0 ≡ c.args.found.under = omega (arith, c.if-found-eq0.true) in
    let full : 0 ≡ c.args.found.over = omega (arith, c.if-found-eq0-2.true) in
    sym (found_nothing c.args.met.now)
    ∙ ap (λ (n : ℕ). found_in n 0 c.args.met.now) empty
    ∙ ap (λ (n : ℕ). found_in c.args.found.under n c.args.met.now) full
    ∙ found_of before w clock c.args.found c.args.met.now is found
