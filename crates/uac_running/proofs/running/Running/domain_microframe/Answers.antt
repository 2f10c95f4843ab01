use Rattle.std.proofs.Common.{subst}
use Rattle.uac_device.specs.DeviceWorld.{after_advance}
use Rattle.uac_units.specs.MeterReadings.{readings}
use Rattle.uac_streaming.specs.Telling.{Telling}
use Rattle.uac_running.specs.RunningWorld.{RunningWorld}
use Rattle.uac_running.specs.RunningKept.{RunningTells}
use Rattle.uac_running.proofs.EventsLemmas.{domain_told}
use Rattle.uac_running.proofs.running.Running.domain_microframe.Goals as goal

pub returns-clause-tells : goal.returns-clause-tells
returns-clause-tells g c r stands =
    let shown = readings (λ v x. (goal.Meter-dyn g (v, x)).reading_of x) c.args.meters.now in
    subst (λ (told : Telling RunningWorld). RunningTells told c.ticks.new.self (readings (λ v x. (goal.Meter-dyn g (v, x)).reading_of x) c.ticks.new.meters) (g.K.Sink.written c.args.sink.now) (g.K.Sink.written c.ticks.new.sink) c.ticks.result)
    (domain_told c.args.domain c.advance-ticks.result r (c.advance-ticks.ensures.ticks shown r stands))
    (c.ticks.ensures.tells (record r { device = after_advance c.args.domain r.device }) (c.advance-ticks.ensures.stands shown r stands))
