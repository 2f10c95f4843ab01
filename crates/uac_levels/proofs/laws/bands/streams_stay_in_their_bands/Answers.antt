use Rattle.uac_levels.proofs.BandsLemmas.{starts_in_band, stays_in_band}
use Rattle.uac_levels.proofs.laws.bands.streams_stay_in_their_bands.Goals as goal

pub returns-clause-starts : goal.returns-clause-starts
returns-clause-starts c = starts_in_band

pub returns-clause-stays : goal.returns-clause-stays
returns-clause-stays c = stays_in_band
