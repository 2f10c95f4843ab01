use Rattle.std.proofs.Common.{◌≡◌, drop}
use Rattle.uac_entities.specs.EntitySettings.{own, format_of}
use Rattle.uac_entities.proofs.settings.format_following.Given as goal

abbrev pub invariant-loop-block : goal.invariant-loop-block
invariant-loop-block l = own format_of (drop l.block-index l.blocks) ≡ own format_of l.blocks
