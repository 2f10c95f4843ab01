use Rattle.uac_promises.proofs.PrintedTextLemmas.{texts_are_read_back}
use Rattle.uac_promises.proofs.laws.promised.texts_are_read_back.Goals as goal

pub returns : goal.returns
returns c = texts_are_read_back
