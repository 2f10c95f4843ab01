use Rattle.std.proofs.Common.{◌≡◌, ◌++◌}
use Rattle.std.specs.List.{flat_map, range_with_len}
use Rattle.uac_store.specs.StoreControls.{channel_controls}
use Rattle.uac_store.proofs.start.add_controls.Given as goal

abbrev pub invariant-loop-below : goal.invariant-loop-below
invariant-loop-below l = l.values.entries ≡ l.initial.values.entries ++ flat_map (channel_controls l.function.entities l.entity) (range_with_len 1 l.below)
