use Rattle.uac_levels.proofs.ProjectionKeptLemmas.{microframes_keep_order, microframes_keep_the_rest}
use Rattle.uac_levels.proofs.laws.bands.microframes_keep_order.Goals as goal

pub returns-clause-rest : goal.returns-clause-rest
returns-clause-rest c = microframes_keep_the_rest

pub returns-clause-order : goal.returns-clause-order
returns-clause-order c = microframes_keep_order
