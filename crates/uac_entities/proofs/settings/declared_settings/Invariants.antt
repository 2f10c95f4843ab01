use Rattle.std.proofs.Common.{◌≡◌, ◌++◌, drop}
use Rattle.uac_entities.specs.EntitySettings.{declared_settings}
use Rattle.uac_entities.proofs.settings.declared_settings.Given as goal

abbrev pub invariant-loop-index : goal.invariant-loop-index
invariant-loop-index l = l.all.items ++ declared_settings (drop l.index l.blocks) ≡ declared_settings l.blocks
