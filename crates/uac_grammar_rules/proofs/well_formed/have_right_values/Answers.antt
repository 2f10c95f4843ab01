use Rattle.std.proofs.Common.{drop, sym, subst, ◌+◌, refl}
use Rattle.std.proofs.lemmas.Bool.{false≢true, not-false, not-true}
use Rattle.uac_descriptor.specs.Contexts.{EachIn}
use Rattle.uac_descriptor.specs.WellFormed.{IsWellFormed}
use Rattle.uac_grammar_rules.specs.Values.{HasValues}
use Rattle.uac_grammar_rules.proofs.SentenceWellFormedLemmas.{well_on, values_on, values_back, values_stop, none_left}
use Rattle.uac_grammar_rules.proofs.well_formed.have_right_values.Goals as goal

pub loop-block-init : goal.loop-block-init
loop-block-init c = ((λ h. h, λ h. h), λ h. h)

pub loop-block-preserved : goal.loop-block-preserved
loop-block-preserved c = (
  (
    λ rest. c.loop-block.invariant.0.0
        (values_on c.loop-block.context c.args.blocks.now c.loop-block.block-index c.block-item.result c.loop-block-test.true c.block-item.is
        (not-true _ (sym c.if-not-is_well_formed.ensures.exact))
        (subst (λ place. EachIn HasValues place (drop (c.loop-block.block-index + 1) c.args.blocks.now)) c.after-context.ensures rest)),
    λ all. subst (λ place. EachIn HasValues place (drop (c.loop-block.block-index + 1) c.args.blocks.now)) (sym c.after-context.ensures)
        (values_back c.loop-block.context c.args.blocks.now c.loop-block.block-index c.block-item.result c.loop-block-test.true c.block-item.is
        (c.loop-block.invariant.0.1 all)),
  ),
  λ rest. c.loop-block.invariant.1
      (well_on c.loop-block.context c.args.blocks.now c.loop-block.block-index c.block-item.result c.loop-block-test.true c.block-item.is
      c.if-not-is_well_formed.ensures.well_formed
      (subst (λ place. EachIn IsWellFormed place (drop (c.loop-block.block-index + 1) c.args.blocks.now)) c.after-context.ensures rest)),
)

pub returns-then-not-is_well_formed-clause-exact : goal.returns-then-not-is_well_formed-clause-exact
returns-then-not-is_well_formed-clause-exact c = (
  λ e. absurd (false≢true e),
  λ all. values_stop c.loop-block.context c.args.blocks.now c.loop-block.block-index c.block-item.result c.loop-block-test.true c.block-item.is
      (not-false _ (sym c.if-not-is_well_formed.ensures.exact)) (c.loop-block.invariant.0.1 all),
)

pub returns-clause-exact : goal.returns-clause-exact
returns-clause-exact c = (
  λ e. c.loop-block.invariant.0.0 (none_left (EachIn HasValues c.loop-block.context) tt c.args.blocks.now c.loop-block.block-index c.loop-block-test.false),
  λ all. refl,
)

pub returns-clause-well_formed : goal.returns-clause-well_formed
returns-clause-well_formed c =
    c.loop-block.invariant.1 (none_left (EachIn IsWellFormed c.loop-block.context) tt c.args.blocks.now c.loop-block.block-index c.loop-block-test.false)
