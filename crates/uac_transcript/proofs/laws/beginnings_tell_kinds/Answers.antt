use Rattle.uac_transcript.proofs.KindsLemmas.{level_by_beginning, over_by_beginning, under_by_beginning}
use Rattle.uac_transcript.proofs.laws.beginnings_tell_kinds.Goals as goal

pub returns : goal.returns
returns c = record { under = under_by_beginning; over = over_by_beginning; level = level_by_beginning }
