use Rattle.uac_levels.proofs.ProjectionLifeLemmas.{microframes_are_lived, tracks_go_on}
use Rattle.uac_levels.proofs.laws.bands.microframes_are_lived.Goals as goal

pub returns-clause-life : goal.returns-clause-life
returns-clause-life c = microframes_are_lived

pub returns-clause-track : goal.returns-clause-track
returns-clause-track c = tracks_go_on
