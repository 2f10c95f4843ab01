use Rattle.std.proofs.Common.{sym, ◌∙◌, ap, refl}
use Rattle.std.proofs.lemmas.Bool.{false≢true}
use Rattle.uac_grammar_rules.specs.Grammar.{is_control, is_audio_interface}
use Rattle.uac_grammar_rules.proofs.SentenceWellFormedLemmas.{control_at, control_on, control_back, control_stops, control_ends}
use Rattle.uac_grammar_rules.proofs.well_formed.begin_with_control.Goals as goal

pub loop-block-init : goal.loop-block-init
loop-block-init c = (λ h. h, λ h. h)

pub returns-then-is_control : goal.returns-then-is_control
returns-then-is_control c = (
  λ e. c.loop-block.invariant.0
      (control_at c.args.blocks.now c.loop-block.block-index c.block-item.result c.loop-block-test.true c.block-item.is
      (ap is_control (sym c.of-role.ensures) ∙ sym c.is_control.ensures ∙ c.if-is_control.true)),
  λ all. refl,
)

pub returns-then-is_audio_interface : goal.returns-then-is_audio_interface
returns-then-is_audio_interface c = (
  λ e. absurd (false≢true e),
  λ all. control_stops c.args.blocks.now c.loop-block.block-index c.block-item.result c.loop-block-test.true c.block-item.is
      (ap is_control (sym c.of-role.ensures) ∙ sym c.is_control.ensures ∙ c.if-is_control.false)
      (ap is_audio_interface (sym c.of-role.ensures) ∙ sym c.is_audio_interface.ensures ∙ c.if-is_audio_interface.true)
      (c.loop-block.invariant.1 all),
)

pub loop-block-preserved : goal.loop-block-preserved
loop-block-preserved c = (
  λ rest. c.loop-block.invariant.0
      (control_on c.args.blocks.now c.loop-block.block-index c.block-item.result c.loop-block-test.true c.block-item.is
      (ap is_audio_interface (sym c.of-role.ensures) ∙ sym c.is_audio_interface.ensures ∙ c.if-is_audio_interface.false) rest),
  λ all. control_back c.args.blocks.now c.loop-block.block-index c.block-item.result c.loop-block-test.true c.block-item.is
      (ap is_control (sym c.of-role.ensures) ∙ sym c.is_control.ensures ∙ c.if-is_control.false) (c.loop-block.invariant.1 all),
)

pub returns : goal.returns
returns c = (
  λ e. absurd (false≢true e),
  λ all. control_ends c.args.blocks.now c.loop-block.block-index c.loop-block-test.false (c.loop-block.invariant.1 all),
)
