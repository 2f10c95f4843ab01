use Rattle.std.proofs.KnownBytes.{append_known-grown}
use Rattle.uac_edges.proofs.gathering.GatheringSink.give.Goals as goal

pub returns-clause-bytes : goal.returns-clause-bytes
returns-clause-bytes g c = append_known-grown _ _ _ _ _ c.in_ok-make_room.ensures.kept c.in-Ok.ensures.ok
