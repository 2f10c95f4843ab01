use Rattle.uac_transcript.proofs.ReadBackLemmas.{read_back}
use Rattle.uac_transcript.proofs.laws.texts_have_their_lines.Goals as goal

pub returns : goal.returns
returns c = read_back
