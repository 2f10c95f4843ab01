use Rattle.uac_status.proofs.DeskLawLemmas.{lines_agree, messages_tell, panel_transcript}
use Rattle.uac_status.proofs.laws.panel_scripts_keep_promises.Goals as goal

pub returns : goal.returns
returns c = record { one = panel_transcript; agreed = lines_agree; told = messages_tell }
