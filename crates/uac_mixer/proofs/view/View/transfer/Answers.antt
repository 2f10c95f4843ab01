use Rattle.std.proofs.Common.{◌∙◌, ap}
use Rattle.uac_topology.specs.Function.{FunctionFields}
use Rattle.uac_mixer.proofs.ViewLinksLemmas.{readable_step, view_step}
use Rattle.uac_mixer.proofs.view.View.transfer.Goals as goal

pub follow-requires : goal.follow-requires
follow-requires g c =
    readable_step c.control_interface-control.result c.args.setup.now c.args.sent.now _ c.args.self.now (g.L.Link.state c.args.link.now)
    (c.control_interface-control.ensures ∙ ap (λ (f : FunctionFields). f.control_interface) c.function.ensures.function)
    c.pass_on-came.ensures.readable

pub returns-clause-made : goal.returns-clause-made
returns-clause-made g c =
    c.pass_on-came.ensures.made _
    (view_step c.control_interface-control.result c.args.setup.now c.args.sent.now _ c.args.self.now (g.L.Link.state c.args.link.now)
    (c.control_interface-control.ensures ∙ ap (λ (f : FunctionFields). f.control_interface) c.function.ensures.function)
    c.follow.new.self c.follow.ensures)
