use Rattle.uac_fullspeed.proofs.BandsLemmas.{leaves_room, fs_slight_step}
use Rattle.uac_fullspeed.proofs.laws.fs_rates_have_bands.Goals as goal

pub returns : goal.returns
returns c = record { bands = leaves_room; steps = fs_slight_step }
