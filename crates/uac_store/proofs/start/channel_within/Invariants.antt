use Rattle.std.proofs.Common.{◌≡◌, drop}
use Rattle.uac_store.specs.StoreControls.{channel_within}
use Rattle.uac_store.proofs.start.channel_within.Given as goal

abbrev pub invariant-loop-channels : goal.invariant-loop-channels
invariant-loop-channels l = channel_within (drop l.channels-index l.pins) l.left ≡ channel_within l.pins l.initial.left
