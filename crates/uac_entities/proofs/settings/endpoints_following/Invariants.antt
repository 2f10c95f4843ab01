use Rattle.std.proofs.Common.{◌≡◌, ◌+◌, ◌≤◌, length, drop}
use Rattle.uac_entities.specs.EntitySettings.{own, endpoint_of}
use Rattle.uac_entities.proofs.settings.endpoints_following.Given as goal

abbrev pub invariant-loop-block : goal.invariant-loop-block
invariant-loop-block l =
    (l.count + length (own endpoint_of (drop l.block-index l.blocks)) ≡ length (own endpoint_of l.blocks)) × (l.count ≤ l.block-index)
