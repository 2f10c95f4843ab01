use Rattle.std.proofs.Common.{◌≡◌, drop}
use Rattle.uac_entities.specs.EntitySettings.{own, general_of}
use Rattle.uac_entities.proofs.settings.general_following.Given as goal

abbrev pub invariant-loop-block : goal.invariant-loop-block
invariant-loop-block l = own general_of (drop l.block-index l.blocks) ≡ own general_of l.blocks
