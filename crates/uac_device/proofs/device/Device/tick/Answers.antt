use Rattle.std.proofs.Common.{true, false, ◌≡◌}
use Rattle.std.proofs.lemmas.Bool.{false≢true}
use Rattle.uac_device.proofs.device.Device.tick.Goals as goal

pub returns-clause-stands : goal.returns-clause-stands
returns-clause-stands g c w stands = c.tick_where.ensures.stands w stands (λ still. absurd (false≢true still))

pub returns-clause-heard : goal.returns-clause-heard
returns-clause-heard g c w stands = c.tick_where.ensures.heard w stands (λ still. absurd (false≢true still))

pub returns-clause-met : goal.returns-clause-met
returns-clause-met g c w stands = c.tick_where.ensures.met w stands (λ still. absurd (false≢true still))
