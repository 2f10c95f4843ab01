use Rattle.uac_status.proofs.DeskDescriptorLemmas.{begun_well}
use Rattle.uac_status.proofs.describing.start.Goals as goal

pub returns-clause-begins : goal.returns-clause-begins
returns-clause-begins g c = λ bytes d.
    begun_well bytes c.args.described c.in_ok-front.front _ _ c.announce.result d c.in_ok-front.ensures
    c.announce.ensures.same c.announce.ensures.fault c.announce.ensures.written
