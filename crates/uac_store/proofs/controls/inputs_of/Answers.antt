use Rattle.std.proofs.Common.{arith}
use Rattle.uac_store.proofs.StoreControlsStartLemmas.{inputs_within}
use Rattle.uac_store.proofs.controls.inputs_of.Goals as goal

pub overflow_add-inputs : goal.overflow_add-inputs
overflow_add-inputs c =
    let within = inputs_within _ _ _ _ c.as_slice-id-items.ensures c.loop-id-test.true c.requires in
    omega (arith, within, c.loop-id.invariant, c.channels_of.ensures.value)
