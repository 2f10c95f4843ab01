use Rattle.std.proofs.Common.{◌≡◌, drop}
use Rattle.uac_entities.specs.EntityInterfaces.{links_of}
use Rattle.uac_entities.proofs.interfaces.first_link.Given as goal

abbrev pub invariant-loop-setting : goal.invariant-loop-setting
invariant-loop-setting l = links_of (drop l.setting-index l.settings) ≡ links_of l.settings
