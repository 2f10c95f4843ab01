use Rattle.std.proofs.Common.{◌≡◌, drop}
use Rattle.uac_store.specs.ControlTable.{at_selector, control_of}
use Rattle.uac_store.proofs.controls.control_of.Given as goal

abbrev pub invariant-loop-row : goal.invariant-loop-row
invariant-loop-row l = at_selector (drop l.row-index l.row-items) l.fn.selector ≡ control_of l.fn.kind l.fn.selector
