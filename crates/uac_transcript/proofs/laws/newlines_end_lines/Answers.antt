use Rattle.uac_transcript.proofs.SpellingsLemmas.{spelling-one}
use Rattle.uac_transcript.proofs.laws.newlines_end_lines.Goals as goal

pub returns : goal.returns
returns c = spelling-one
