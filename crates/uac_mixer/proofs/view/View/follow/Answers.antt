-- A request for none of the controls leaves the view.
use Rattle.std.proofs.Common.{◌∙◌, sym}
use Rattle.uac_mixer.specs.ViewTransfers.{came_of}
use Rattle.uac_mixer.proofs.MixerElementsKeyLemmas.{none_left}
use Rattle.uac_mixer.proofs.view.View.follow.Goals as goal

pub returns-else-is_for_any : goal.returns-else-is_for_any
returns-else-is_for_any c =
    none_left c.args.control c.args.setup.now c.args.sent.now (came_of c.args.came.now) c.args.self.now (sym c.is_for_any.ensures ∙ c.if-is_for_any.false)
