use Rattle.uac_status.specs.Desks.{desk_start}
use Rattle.uac_call.proofs.FrontPanelLemmas.{panel_performs}
use Rattle.uac_call.proofs.front_panel.run_panel.Goals as goal

pub returns : goal.returns
returns g c = λ shown.
    panel_performs shown _ _ _ c.each_text_says_one_thing.ensures c.panel_scripts_keep_promises.ensures.agreed
    c.panel_scripts_keep_promises.ensures.told (c.run_script-status.ensures desk_start c.new-desk.ensures)
