-- The device keeps a value for each control.
use Rattle.uac_mixer.proofs.ViewLinksLemmas.{stored_by}
use Rattle.uac_mixer.proofs.link.DeviceLink.act.Goals as goal

pub invariant_of-self : goal.invariant_of-self
invariant_of-self c = record { stored = stored_by _ _ _ _ _ c.act-acted.ensures.controlled c.args.self.now.stored }
