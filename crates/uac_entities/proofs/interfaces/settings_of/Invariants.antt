use Rattle.std.proofs.Common.{◌≡◌, take}
use Rattle.uac_entities.specs.EntityInterfaces.{settings_of}
use Rattle.uac_entities.proofs.interfaces.settings_of.Given as goal

abbrev pub invariant-loop-declared : goal.invariant-loop-declared
invariant-loop-declared l = l.settings.items ≡ settings_of (take l.declared-index l.all) l.number
