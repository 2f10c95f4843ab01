use Rattle.uac_bus.proofs.BusWorldDescriptorLemmas.{begun}
use Rattle.uac_bus.proofs.describing.start.Goals as goal

pub returns-clause-begins : goal.returns-clause-begins
returns-clause-begins g c = λ bytes d shown.
    begun bytes c.args.described c.in_ok-running.running shown _ _ c.announce.result d c.in_ok-running.ensures.function (c.in_ok-running.ensures.stands bytes shown d.3)
    c.announce.ensures.same c.announce.ensures.fault c.announce.ensures.written
