use Rattle.uac_flow.proofs.FlowTicksLemmas.{in_kept, in_full}
use Rattle.uac_flow.proofs.laws.streams_from_the_device_go_by_level.Goals as goal

pub returns-clause-frames : goal.returns-clause-frames
returns-clause-frames c = in_kept

pub returns-clause-full : goal.returns-clause-full
returns-clause-full c = in_full
