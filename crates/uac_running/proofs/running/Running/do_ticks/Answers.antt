use Rattle.std.proofs.Common.{arith}
use Rattle.uac_units.specs.MeterReadings.{readings}
use Rattle.uac_running.proofs.AheadStandsLemmas.{no_ticks}
use Rattle.uac_running.proofs.running.Running.do_ticks.Goals as goal

pub returns-else-count-gt0-clause-played : goal.returns-else-count-gt0-clause-played
returns-else-count-gt0-clause-played g c r stands t less = absurd (omega (arith, less, c.if-count-gt0.false))

pub returns-else-count-gt0-clause-stands : goal.returns-else-count-gt0-clause-stands
returns-else-count-gt0-clause-stands g c r stands unmet =
    no_ticks c.args.domain c.args.count c.args.self.now (readings (λ v x. (goal.Meter-dyn g (v, x)).reading_of x) c.args.meters.now) r (omega (arith, c.if-count-gt0.false)) stands
