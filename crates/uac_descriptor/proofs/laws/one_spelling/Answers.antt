use Rattle.uac_descriptor.proofs.LawsLemmas.{one_spelling_lem}
use Rattle.uac_descriptor.proofs.laws.one_spelling.Goals as goal

pub returns : goal.returns
returns c = one_spelling_lem
