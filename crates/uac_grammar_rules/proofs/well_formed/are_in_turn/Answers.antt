use Rattle.std.proofs.Common.{sym, refl}
use Rattle.std.proofs.lemmas.Bool.{false≢true}
use Rattle.uac_grammar_rules.proofs.SentenceTurnLemmas.{turning_start}
use Rattle.uac_grammar_rules.proofs.SentenceWellFormedLemmas.{turn_on, turn_stops, turn_ends}
use Rattle.uac_grammar_rules.proofs.well_formed.are_in_turn.Goals as goal

pub loop-block-init : goal.loop-block-init
loop-block-init c = turning_start c.args.blocks.now

pub loop-block-preserved : goal.loop-block-preserved
loop-block-preserved c =
    rw (c.use_number.ensures, c.latest_after-latest.ensures)
    (turn_on c.loop-block.used c.loop-block.latest c.args.blocks.now c.loop-block.block-index c.block-item.result c.loop-block-test.true c.block-item.is
    c.keep_number.ensures (sym c.if-not-is_in_turn.ensures) c.loop-block.invariant)

pub returns : goal.returns
returns c = (
  λ e. turn_ends c.loop-block.used c.loop-block.latest c.args.blocks.now c.loop-block.block-index c.loop-block-test.false c.loop-block.invariant,
  λ all. refl,
)

pub returns-then-not-is_in_turn : goal.returns-then-not-is_in_turn
returns-then-not-is_in_turn c = (
  λ e. absurd (false≢true e),
  λ all. turn_stops c.loop-block.used c.loop-block.latest c.args.blocks.now c.loop-block.block-index c.block-item.result c.loop-block-test.true c.block-item.is
      c.keep_number.ensures (sym c.if-not-is_in_turn.ensures) c.loop-block.invariant all,
)
