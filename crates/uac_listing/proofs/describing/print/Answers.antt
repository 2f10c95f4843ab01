use Rattle.uac_listing.proofs.AnsweredLemmas.{elements_said}
use Rattle.uac_listing.proofs.describing.print.Goals as goal

pub returns-in-Elements : goal.returns-in-Elements
returns-in-Elements g c = elements_said c.args.description c.args.blocks.now c.args.function _ _ _ _ _ c.in-Elements.is (c.list.ensures c.args.blocks.now)
