-- One more is changed.
use Rattle.uac_alt.specs.AltSettings.{interface_setting_after}
use Rattle.uac_alt.proofs.AltSettingsLemmas.{changed_more}
use Rattle.uac_alt.proofs.settings.change.Goals as goal

pub loop-held-preserved : goal.loop-held-preserved
loop-held-preserved c =
    changed_more (interface_setting_after c.args.interface c.args.setting) c.args.settings.now c.loop-held.settings c.loop-held.held-index c.interface_setting_after.result _ c.loop-held-test.true
    c.loop-held.auto.settings c.loop-held.invariant c.interface_setting_after.ensures
