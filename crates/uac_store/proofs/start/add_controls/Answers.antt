use Rattle.std.proofs.Common.{arith}
use Rattle.uac_store.proofs.StoreControlsStartLemmas.{selector_absent, all_selectors}
use Rattle.uac_store.proofs.start.add_controls.Goals as goal

pub add_channels-requires-clause-absent : goal.add_channels-requires-clause-absent
add_channels-requires-clause-absent c = λ channel. selector_absent _ _ _ _ _ _ c.requires.absent c.loop-below.invariant

pub returns : goal.returns
returns c = all_selectors _ _ _ _ _ (omega (arith, c.loop-below-test.false, c.loop-below.auto.below-end, c.selectors_of-below-end.ensures.value)) c.loop-below.invariant
