use Rattle.std.proofs.Common.{◌≡◌, drop}
use Rattle.std.specs.Prelude.{slice_get}
use Rattle.uac_entities.specs.EntitySettings.{own, endpoint_of}
use Rattle.uac_entities.proofs.settings.endpoint_following.Given as goal

abbrev pub invariant-loop-block : goal.invariant-loop-block
invariant-loop-block l = slice_get (own endpoint_of (drop l.block-index l.blocks)) l.left ≡ slice_get (own endpoint_of l.blocks) l.others
