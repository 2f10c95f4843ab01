use Rattle.std.proofs.Common.{◌≡◌, ◌++◌}
use Rattle.uac_store.specs.StoreControls.{first_channels}
use Rattle.uac_store.proofs.start.add_channels.Given as goal

abbrev pub invariant-loop-channel : goal.invariant-loop-channel
invariant-loop-channel l = l.values.entries ≡ l.initial.values.entries ++ first_channels l.function.entities l.entity l.selector l.channel
