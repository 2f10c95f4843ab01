use Rattle.uac_implicit.proofs.PairStepLemmas.{answers_same}
use Rattle.uac_implicit.proofs.pair.Pair.line.Goals as goal

pub returns-clause-answers : goal.returns-clause-answers
returns-clause-answers g c = λ w s. answers_same _ _ w _ _ _ _ c.lend.ensures (c.lent_line.ensures.answers w s)
