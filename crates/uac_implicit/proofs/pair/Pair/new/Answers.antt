use Rattle.std.proofs.Common.{pos, w32}
use Rattle.uac_implicit.proofs.PairKeptLemmas.{new_stands}
use Rattle.uac_implicit.proofs.pair.Pair.new.Goals as goal

pub returns : goal.returns
returns c = λ rate listed.
    new_stands c.args.nominal rate _ _ _ _ _ listed c.step_within-step.ensures.value c.new-3.ensures c.new-4.ensures.stands c.in_ok-out.ensures c.in_ok-waiting.ensures
