use Rattle.uac_units.specs.MeterReadings.{readings}
use Rattle.uac_running.proofs.EventsLemmas.{tick_told}
use Rattle.uac_running.proofs.running.Running.tick.Goals as goal

pub returns-clause-tells : goal.returns-clause-tells
returns-clause-tells g c r stands rests stills =
    tick_told c.args.domain (readings (λ v x. (goal.Meter-dyn g (v, x)).reading_of x) c.tick_device-found.new.meters) r c.tick_device-found.new.self c.tick_device-found.result
    (g.K.Sink.written c.args.sink.now) (g.K.Sink.written c.show.new.sink) c.show.result (c.tick_device-found.ensures.stands r stands rests stills)
    (c.tick_device-found.ensures.found r stands rests stills) c.show.ensures.printed
