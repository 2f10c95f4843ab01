use Rattle.uac_levels.proofs.BandsLemmas.{ends_near, holds_between}
use Rattle.uac_levels.proofs.laws.bands.levels_are_near.Goals as goal

pub returns-clause-ends : goal.returns-clause-ends
returns-clause-ends c = ends_near

pub returns-clause-between : goal.returns-clause-between
returns-clause-between c = holds_between
