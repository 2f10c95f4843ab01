use Rattle.uac_levels.proofs.BandsLemmas.{holds_enough, never_dry, never_over_full}
use Rattle.uac_levels.proofs.laws.bands.rings_run_neither_dry_nor_over.Goals as goal

pub returns-clause-enough : goal.returns-clause-enough
returns-clause-enough c = holds_enough

pub returns-clause-dry : goal.returns-clause-dry
returns-clause-dry c = never_dry

pub returns-clause-over : goal.returns-clause-over
returns-clause-over c = never_over_full
