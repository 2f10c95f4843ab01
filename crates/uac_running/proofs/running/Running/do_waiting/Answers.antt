use Rattle.uac_units.specs.MeterReadings.{readings}
use Rattle.uac_running.proofs.QuietLemmas.{met_waits, waited}
use Rattle.uac_running.proofs.running.Running.do_waiting.Goals as goal

pub returns : goal.returns
returns g c r waits =
    waited c.args.domain c.args.waiting c.args.self.now c.do_ticks.new.self (readings (λ v x. (goal.Meter-dyn g (v, x)).reading_of x) c.args.meters.now) (readings (λ v x. (goal.Meter-dyn g (v, x)).reading_of x) c.do_ticks.new.meters) r waits
    (c.do_ticks.ensures.stands waits.before waits.stands (met_waits c.args.waiting c.args.domain waits.before waits.idle))
