-- The rules on what ids name, by their names in the code.
use Rattle.std.specs.Prelude.{ℕ, Bool, false, List}
use Rattle.uac_entities.specs.declared.entity.Entity.{Entity}
use Rattle.uac_topology_rules.specs.declared.rule.Rule.{Rule}
use Rattle.uac_topology_rules.specs.declared.rule.Rule.TheVariants as rule
use Rattle.uac_topology_rules.specs.Rules as rules

-- the other rules are none of these
abbrev pub breaks : Rule → List Entity → ℕ → Bool
breaks rule.ZeroId entities index = rules.breaks_u1 entities index
breaks rule.RepeatedId entities index = rules.breaks_u2 entities index
breaks rule.UnknownSource entities index = rules.breaks_u3 entities index
breaks rule.SilentSource entities index = rules.breaks_u4 entities index
breaks rule.UnknownClock entities index = rules.breaks_u5 entities index
breaks rule.SignalCycle entities index = false
breaks rule.ClockCycle entities index = false
breaks rule.WrongCluster entities index = false
breaks rule.WrongSize entities index = false
breaks rule.UnequalPins entities index = false
breaks rule.OtherClock entities index = false
breaks rule.WrongLink entities index = false
breaks rule.WrongEndpoints entities index = false
breaks rule.TooMany entities index = false
