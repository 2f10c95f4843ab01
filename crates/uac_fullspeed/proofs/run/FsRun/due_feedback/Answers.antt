-- No rate gives more than 97 frames in a bus frame.
use Rattle.std.proofs.Common.{arith}
use Rattle.uac_fullspeed.proofs.BandsLemmas.{leaves_room}
use Rattle.uac_fullspeed.proofs.run.FsRun.due_feedback.Goals as goal

pub returns-in-None-clause-fits : goal.returns-in-None-clause-fits
returns-in-None-clause-fits c = let room = leaves_room c.self.inside.nominal c.self.invariant.of_a_rate in omega (arith, room.band.above, room.most)
