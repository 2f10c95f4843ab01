use Rattle.uac_levels.proofs.ProjectionPacketLemmas.{microframes_keep_fed, packets_have_their_frames}
use Rattle.uac_levels.proofs.laws.bands.packets_have_their_frames.Goals as goal

pub returns-clause-fed : goal.returns-clause-fed
returns-clause-fed c = microframes_keep_fed

pub returns-clause-frames : goal.returns-clause-frames
returns-clause-frames c = packets_have_their_frames
