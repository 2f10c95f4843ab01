use Rattle.uac_transcript.proofs.KindsLemmas.{level_told, over_told, under_told}
use Rattle.uac_transcript.proofs.laws.rings_lines_are_told.Goals as goal

pub returns : goal.returns
returns c = record { under = under_told; over = over_told; level = level_told }
