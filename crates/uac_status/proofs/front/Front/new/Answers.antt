use Rattle.std.proofs.Common.{refl}
use Rattle.uac_status.proofs.FrontLinkLemmas.{started}
use Rattle.uac_status.proofs.front.Front.new.Goals as goal

pub returns : goal.returns
returns c = started c.args.function _ c.in_ok-viewed.ensures.stands c.in_ok-viewed.ensures.view c.new.ensures refl
