use Rattle.uac_levels.proofs.BandRunEmptyLemmas.{find_none_empty}
use Rattle.uac_levels.proofs.laws.bands.microframes_find_none_empty.Goals as goal

pub returns : goal.returns
returns c = record { none = find_none_empty }
