-- The setting of each interface after one is set.
use Rattle.std.proofs.Common.{arith}
use Rattle.std.proofs.lemmas.Grind.{common_steps}
use Rattle.uac_alt.proofs.AltSettingsLemmas.{setting_after}
use Rattle.uac_alt.proofs.settings.Settings.set.Goals as goal

pub returns-clause-setting : goal.returns-clause-setting
returns-clause-setting c = setting_after c.args.self.now _ c.args.interface c.args.setting c.requires (grind (arith, common_steps))
