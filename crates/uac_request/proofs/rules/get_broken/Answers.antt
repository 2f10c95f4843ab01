-- The rules that are left are those of the twelve that such a request may break.
use Rattle.std.proofs.Common.{◌∙◌, sym}
use Rattle.uac_request.specs.Owners.{owner_fields}
use Rattle.uac_request.specs.Requests.{request_state}
use Rattle.uac_request.proofs.RequestsRuleLemmas.{first_get}
use Rattle.uac_request.proofs.rules.get_broken.Goals as goal

pub returns-clause-broken : goal.returns-clause-broken
returns-clause-broken c = λ settings.
    c.broken_at.ensures.broken
    ∙ sym (first_get c.args.function.now (request_state c.args.store.now settings) c.args.setup.now c.args.sent.now (owner_fields c.args.owner) c.requires.of_interface c.requires.of_index c.args.range c.requires.asked c.requires.number)
