use Rattle.uac_units.specs.MeterReadings.{readings}
use Rattle.uac_running.proofs.AheadLemmas.{caught_up}
use Rattle.uac_running.proofs.running.Running.catch_up.Goals as goal

pub returns : goal.returns
returns g c r ahead =
    let shown = readings (λ v x. (goal.Meter-dyn g (v, x)).reading_of x) c.args.meters.now in
    let showing = readings (λ v x. (goal.Meter-dyn g (v, x)).reading_of x) c.do_ticks.new.meters in
    caught_up c.args.domain c.args.ahead.ticks c.args.ahead.sent c.args.self.now c.do_ticks.new.self c.drop_sent.new.self shown showing r ahead
    c.do_ticks.ensures.stands (λ v stands there. c.drop_sent.ensures showing v stands there)
