use Rattle.uac_fullspeed.proofs.BandsLemmas.{frame_robust, fs_report_robust}
use Rattle.uac_fullspeed.proofs.laws.frames_and_reports_keep_robust.Goals as goal

pub returns : goal.returns
returns c = record { frames = frame_robust; reports = fs_report_robust }
