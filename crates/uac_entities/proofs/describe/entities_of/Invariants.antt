use Rattle.std.proofs.Common.{◌≡◌, take}
use Rattle.uac_entities.specs.Entities.{entities_of}
use Rattle.uac_entities.proofs.describe.entities_of.Given as goal

abbrev pub invariant-loop-block : goal.invariant-loop-block
invariant-loop-block l = l.entities.items ≡ entities_of (take l.block-index l.blocks)
