use Rattle.std.proofs.Common.{◌≡◌, ◌+◌, ◌*◌, min, true, ap, ◌∙◌, arith, rules}
use Rattle.uac_lines.proofs.ScriptNumeralsLemmas.{digit_is, held_more}
use Rattle.uac_lines.specs.ScriptNumerals.{is_natural, far}
use Rattle.uac_lines.proofs.numbers.natural.Goals as goal

pub overflow_sub-digit : goal.overflow_sub-digit
overflow_sub-digit c =
    let natural : is_natural c.args.word.now ≡ true = search rules in
    digit_is c.args.word.now c.loop-digit.digit-index natural (omega arith)

pub loop-digit-preserved : goal.loop-digit-preserved
loop-digit-preserved c =
    let natural : is_natural c.args.word.now ≡ true = search rules in
    let more = held_more c.args.word.now c.loop-digit.digit-index c.loop-digit.value natural (omega arith) c.loop-digit.invariant.0 in
    (c.min-value.ensures ∙ ap (λ d. min (c.loop-digit.value * 10 + d) far) c.from.ensures ∙ more, omega arith)
