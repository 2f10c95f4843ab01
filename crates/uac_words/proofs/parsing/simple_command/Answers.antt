use Rattle.std.proofs.Common.{◌≡◌, ◌∙◌, ap₂, rules}
use Rattle.std.proofs.lemmas.Result.{IfOk-weaker}
use Rattle.clap.specs.Words.{app_of, rule_of, with_rule}
use Rattle.uac_words.specs.ByClap.{command_rule, empty_command, number_rule, rack_rule}
use Rattle.uac_words.proofs.parsing.simple_command.Goals as goal

pub returns : goal.returns
returns c =
    let command_is : rule_of c.action-command.result ≡ command_rule = search rules in
    let number_is : rule_of c.action-number.result ≡ number_rule = search rules in
    let rack_is : rule_of c.default_value-rack.result ≡ rack_rule = search rules in
    let bare_is : app_of c.disable_version_flag.result ≡ empty_command = search rules in
    let with_command = c.in_ok-arg.ensures.shape (search rules) ∙ ap₂ with_rule bare_is command_is in
    let with_number = c.in_ok-arg-2.ensures.shape (search rules) ∙ ap₂ with_rule with_command number_is in
    IfOk-weaker c.arg-3.result _ _ (λ _ h. h.shape (search rules) ∙ ap₂ with_rule with_number rack_is) c.arg-3.ensures
