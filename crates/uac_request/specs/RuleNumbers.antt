-- The numbers of the rules by which a request is stalled, by their names in the code (profile).
use Rattle.std.specs.Prelude.{ℕ}
use Rattle.uac_request.specs.declared.rule.RequestRule.{RequestRule}
use Rattle.uac_request.specs.declared.rule.RequestRule.TheVariants as rule

abbrev pub rule_number : RequestRule → ℕ
rule_number rule.UnknownRequest = 1
rule_number rule.UnknownInterface = 2
rule_number rule.UnknownOwner = 3
rule_number rule.UnknownSelector = 4
rule_number rule.UndeclaredControl = 5
rule_number rule.UnknownChannel = 6
rule_number rule.ReadOnlyControl = 7
rule_number rule.WrongLength = 8
rule_number rule.IllegalValue = 9
rule_number rule.RunningClock = 10
rule_number rule.UnknownSetting = 11
rule_number rule.InvalidSetting = 12
