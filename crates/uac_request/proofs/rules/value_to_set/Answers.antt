-- The rules that are left are those of the twelve that such a request may break.
use Rattle.std.proofs.Common.{◌≡◌, IfErr, IfOk, None, Some, subst, sym}
use Rattle.uac_request.specs.Owners.{owner_fields}
use Rattle.uac_request.specs.Requests.{request_state}
use Rattle.uac_request.specs.RuleNumbers.{rule_number}
use Rattle.uac_request.proofs.RequestsRuleLemmas.{first_set}
use Rattle.uac_request.proofs.rules.value_to_set.Goals as goal

pub returns-clause-broken : goal.returns-clause-broken
returns-clause-broken c =
    subst (λ o. IfErr c.value_sent.result (λ rule. o ≡ Some (rule_number rule)))
    (sym (first_set c.args.function.now (request_state c.args.store.now c.args.settings.now) c.args.setup.now c.args.sent.now (owner_fields c.args.owner) c.requires.of_interface c.requires.of_index c.requires.asked c.requires.number))
    c.value_sent.ensures.broken

pub returns-clause-met : goal.returns-clause-met
returns-clause-met c =
    subst (λ o. IfOk c.value_sent.result (λ value. o ≡ None))
    (sym (first_set c.args.function.now (request_state c.args.store.now c.args.settings.now) c.args.setup.now c.args.sent.now (owner_fields c.args.owner) c.requires.of_interface c.requires.of_index c.requires.asked c.requires.number))
    c.value_sent.ensures.met
