-- The rules on streaming interfaces, by their names in the code.
use Rattle.std.specs.Prelude.{ℕ, Bool, false, List}
use Rattle.uac_entities.specs.declared.settings.DeclaredSetting.{DeclaredSetting}
use Rattle.uac_entities.specs.declared.entity.Entity.{Entity}
use Rattle.uac_entities.specs.declared.stream.StreamInterface.{StreamInterface}
use Rattle.uac_topology_rules.specs.declared.rule.Rule.{Rule}
use Rattle.uac_topology_rules.specs.declared.rule.Rule.TheVariants as rule
use Rattle.uac_topology_rules.specs.Rules as rules

-- the other rules are none of these
abbrev pub breaks : Rule → List Entity → List DeclaredSetting → List StreamInterface → ℕ → Bool
breaks rule.ZeroId entities all streams index = false
breaks rule.RepeatedId entities all streams index = false
breaks rule.UnknownSource entities all streams index = false
breaks rule.SilentSource entities all streams index = false
breaks rule.UnknownClock entities all streams index = false
breaks rule.SignalCycle entities all streams index = false
breaks rule.ClockCycle entities all streams index = false
breaks rule.WrongCluster entities all streams index = false
breaks rule.WrongSize entities all streams index = false
breaks rule.UnequalPins entities all streams index = false
breaks rule.OtherClock entities all streams index = false
breaks rule.WrongLink entities all streams index = rules.breaks_u12 entities streams index
breaks rule.WrongEndpoints entities all streams index = rules.breaks_u13 all streams index
breaks rule.TooMany entities all streams index = rules.exceeds streams index
