use Rattle.std.proofs.KnownBytes.{Keeps-trans, append_known-kept}
use Rattle.uac_edges.proofs.gathering.GatheringSink.flush.Goals as goal

pub returns-clause-kept : goal.returns-clause-kept
returns-clause-kept g c = Keeps-trans _ _ _ c.hand_on.ensures.kept (append_known-kept _ _ _ c.flush.ensures.kept)
