-- The numbers of the rules (profile).
use Rattle.std.specs.Prelude.{ℕ}
use Rattle.uac_topology_rules.specs.declared.rule.Rule.{Rule}
use Rattle.uac_topology_rules.specs.declared.rule.Rule.TheVariants as rule

abbrev pub number : Rule → ℕ
number rule.ZeroId = 1
number rule.RepeatedId = 2
number rule.UnknownSource = 3
number rule.SilentSource = 4
number rule.UnknownClock = 5
number rule.SignalCycle = 6
number rule.ClockCycle = 7
number rule.WrongCluster = 8
number rule.WrongSize = 9
number rule.UnequalPins = 10
number rule.OtherClock = 11
number rule.WrongLink = 12
number rule.WrongEndpoints = 13
number rule.TooMany = 14
