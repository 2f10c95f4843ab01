use Rattle.std.proofs.Common.{ℕ, refl, sym, ap, ◌∙◌}
use Rattle.uac_grammar_rules.specs.Grammar.{rule_broken}
use Rattle.uac_grammar.proofs.VerdictLemmas.{broken_shows, none_read, unread_shows}
use Rattle.uac_grammar.proofs.judge.keep.Goals as goal

pub returns-in_default : goal.returns-in_default
returns-in_default c = (
  unread_shows c.args.state.now c.args.place c.args.bytes.now c.requires.piece (none_read _ _ c.in_ok-block.ensures c.in_default.not-Some),
  record { blocks = refl; state = refl },
)

pub returns-in-Err : goal.returns-in-Err
returns-in-Err c =
    let s = c.args.state.now in
    let bytes = c.args.bytes.now in
    let block = c.in-Some.block in
    let piece = c.requires.piece in
    let judged = c.in-Err.ensures in
    let broken = ap (λ (size : ℕ). rule_broken s c.args.place size block) piece.1 ∙ judged.0 in (
      broken_shows s c.args.place bytes block c.in-Err.rule piece (sym c.in_ok-block.ensures ∙ c.in-Some.is) broken,
      record { blocks = refl; state = judged.1 },
    )
