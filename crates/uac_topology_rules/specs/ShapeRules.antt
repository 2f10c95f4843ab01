-- The rules on clusters, sizes and clocks, by their names in the code.
use Rattle.std.specs.Prelude.{ℕ, Bool, false, List}
use Rattle.uac_entities.specs.declared.entity.Entity.{Entity}
use Rattle.uac_topology_rules.specs.declared.rule.Rule.{Rule}
use Rattle.uac_topology_rules.specs.declared.rule.Rule.TheVariants as rule
use Rattle.uac_topology_rules.specs.Rules as rules

-- the other rules are none of these
abbrev pub breaks : Rule → List Entity → ℕ → Bool
breaks rule.ZeroId entities index = false
breaks rule.RepeatedId entities index = false
breaks rule.UnknownSource entities index = false
breaks rule.SilentSource entities index = false
breaks rule.UnknownClock entities index = false
breaks rule.SignalCycle entities index = false
breaks rule.ClockCycle entities index = false
breaks rule.WrongCluster entities index = rules.breaks_u8 entities index
breaks rule.WrongSize entities index = rules.breaks_u9 entities index
breaks rule.UnequalPins entities index = rules.breaks_u10 entities index
breaks rule.OtherClock entities index = rules.breaks_u11 entities index
breaks rule.WrongLink entities index = false
breaks rule.WrongEndpoints entities index = false
breaks rule.TooMany entities index = false
