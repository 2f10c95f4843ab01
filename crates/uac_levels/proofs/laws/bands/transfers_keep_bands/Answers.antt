use Rattle.uac_levels.proofs.BandTransfersBandLemmas.{transfers_keep_bands}
use Rattle.uac_levels.proofs.laws.bands.transfers_keep_bands.Goals as goal

pub returns : goal.returns
returns c = record { transfers = transfers_keep_bands }
