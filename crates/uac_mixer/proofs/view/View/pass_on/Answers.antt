use Rattle.std.proofs.Common.{subst}
use Rattle.uac_topology.specs.Topology.{IsSoundFunction}
use Rattle.uac_store.proofs.StoreControlsSoundLemmas.{keyed}
use Rattle.uac_mixer.proofs.ViewLinksLemmas.{made, readable_made}
use Rattle.uac_mixer.proofs.view.View.pass_on.Goals as goal

pub returns-clause-keyed : goal.returns-clause-keyed
returns-clause-keyed g c = keyed _ (subst IsSoundFunction c.function.ensures.function c.functions_are_sound.ensures)

pub returns-clause-readable : goal.returns-clause-readable
returns-clause-readable g c =
    readable_made c.args.setup.now c.args.sent.now _ c.args.self.now (g.L.Link.state c.args.link.now) (g.L.Link.state c.control.new.self)
    (subst IsSoundFunction c.function.ensures.function c.functions_are_sound.ensures)
    c.function.ensures.stored c.requires.of_function c.control.ensures.transfer

pub returns-clause-made : goal.returns-clause-made
returns-clause-made g c = λ after view.
    made c.args.setup.now c.args.sent.now _ c.args.self.now after (g.L.Link.state c.args.link.now) (g.L.Link.state c.control.new.self)
    (subst IsSoundFunction c.function.ensures.function c.functions_are_sound.ensures)
    c.function.ensures.stored c.requires.of_function c.control.ensures.transfer view
