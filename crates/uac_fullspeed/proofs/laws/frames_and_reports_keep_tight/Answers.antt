use Rattle.uac_fullspeed.proofs.BandsLemmas.{frame_tight, fs_report_tight}
use Rattle.uac_fullspeed.proofs.laws.frames_and_reports_keep_tight.Goals as goal

pub returns : goal.returns
returns c = record { frames = frame_tight; reports = fs_report_tight }
